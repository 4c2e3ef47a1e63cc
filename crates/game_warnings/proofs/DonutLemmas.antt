-- How a donut around a pillar harms, or doesn't.
use Rattle.std.proofs.Common.{◌≡◌, ◌≢◌, ◌↔◌, ℕ, ◌<◌, ◌≤◌, Bool, true, false, inl, inr, List, length, Option, Some, None, refl, sym, ap, subst, ◌∙◌, arith}
use Rattle.std.specs.Prelude.{◌&&◌, not, IfSome, IsSomeAnd, IsTrue, is_some}
use Rattle.std.specs.List.{slice_get}
use Rattle.std.proofs.lemmas.Bool.{and_parts}
use Rattle.map_level.specs.Level.{Level}
use Rattle.map_level.proofs.BoundLemmas.{some_within}
use Rattle.game_warnings.specs.Around.{AreFirstLines, LeadsElsewhereAt}
use Rattle.game_warnings.specs.Donut.{leads_off, ring_across, HasNoLine, HasNoRing, HasOpenRing, LeadsOffAt}
use Rattle.game_warnings.specs.First.{IsFirst, IsFirstBelow}
use Rattle.game_warnings.specs.Harm.{effect_of, HasNoDoor, IsHarmedBy}
use Rattle.game_warnings.specs.Sides.{is_of, is_sector, sides_in, IsLineAt}
use Rattle.game_warnings.specs.declared.around.FirstLines.{FirstLines}
use Rattle.game_warnings.specs.declared.sides.Sides.{Sides}
use Rattle.game_warnings.specs.declared.warning.Effect.TheVariants.{Donut}
use Rattle.game_warnings.specs.declared.warning.Harm.{Harm}
use Rattle.game_warnings.specs.declared.warning.Harm.TheVariants.{NoLine, NoRing, OpenRing, ManyNeighbours, NoNeighbour}
use Rattle.game_warnings.proofs.FirstLemmas.{at_as, both_at, first_as, first_none, first_one, from_at}
use Rattle.game_warnings.proofs.HarmLemmas.{harm_one, ring_same}
use Rattle.game_warnings.proofs.SideLemmas.{is_sector-same, sector_is}

-- a linedef of a ring leads off a pillar that is behind the first exactly where another sector is behind it than behind the first
same_off : (p r : ℕ) (behind : Option ℕ) (sides : Sides) → behind ≡ Some p → IsTrue (leads_off p r sides) ↔ (IsTrue (is_of r sides) × (sides.back ≢ behind))
same_off p r behind sides is = (
  λ h.
      let both = and_parts (is_of r sides) (not (is_sector sides.back p)) h in (
        both.0,
        λ same.
            let here : is_sector sides.back p ≡ true = rw (same ∙ is) (is_sector-same p) in
            let no : false ≡ true = ap not (sym here) ∙ both.1 in
            absurd (let gone = no in cc),
      ),
  λ h. go (is_sector sides.back p) refl h,
)
  where
    go : (b : Bool) → is_sector sides.back p ≡ b → IsTrue (is_of r sides) × (sides.back ≢ behind) → IsTrue (leads_off p r sides)
    go true here h = absurd (h.1 (sector_is sides.back p here ∙ sym is))
    go false here h = let own : is_of r sides ≡ true = h.0 in rw (own, here) refl

off_as : (level : Level) (p r : ℕ) (behind : Option ℕ) (k : ℕ) → behind ≡ Some p → LeadsElsewhereAt level r behind k ↔ LeadsOffAt level p r k
off_as level p r behind k is = (
  λ h. at_as (slice_get (sides_in level) k) (λ x. IsTrue (is_of r x) × (x.back ≢ behind)) (λ x. IsTrue (leads_off p r x)) (λ x. (same_off p r behind x is).1) h,
  λ h. at_as (slice_get (sides_in level) k) (λ x. IsTrue (leads_off p r x)) (λ x. IsTrue (is_of r x) × (x.back ≢ behind)) (λ x. (same_off p r behind x is).0) h,
)

off_line : (level : Level) (p r k : ℕ) → LeadsOffAt level p r k → IsLineAt level r k
off_line level p r k h =
    at_as (slice_get (sides_in level) k) (λ x. IsTrue (leads_off p r x)) (λ x. IsTrue (is_of r x)) (λ x off. (and_parts (is_of r x) (not (is_sector x.back p)) off).0) h

below_as : (P Q : ℕ → Type 0) (n : ℕ) (o : Option ℕ) → ((k : ℕ) → P k ↔ Q k) → IsFirstBelow P n o → IsFirstBelow Q n o
below_as P Q n (Some i) same first = (first.0, first_as P Q i first.1 same)
below_as P Q n None same none = λ k less h. none k less ((same k).1 h)

-- the first linedef of a ring that leads off is the one with something else behind it, or the first of all
pub off_other : (level : Level) (p r n : ℕ) (lines : FirstLines) → is_sector lines.behind p ≡ true → AreFirstLines level r n lines
    → IsFirstBelow (LeadsOffAt level p r) n lines.other
off_other level p r n lines is are =
    let behind = sector_is lines.behind p is in
    below_as (LeadsElsewhereAt level r lines.behind) (LeadsOffAt level p r) n lines.other (λ k. off_as level p r lines.behind k behind) are.other

pub off_first : (level : Level) (p r n : ℕ) (lines : FirstLines) → is_sector lines.behind p ≡ false → AreFirstLines level r n lines
    → IsFirstBelow (LeadsOffAt level p r) n lines.first
off_first level p r n lines other are = go lines.first refl are.first are.behind
  where
    go : (o : Option ℕ) → lines.first ≡ o → IsFirstBelow (IsLineAt level r) n o → IfSome o (λ f. IsSomeAnd (slice_get (sides_in level) f) (λ sides. sides.back ≡ lines.behind))
        → IsFirstBelow (LeadsOffAt level p r) n o
    go (Some f) is first behind = (
      first.0,
      record {
        here =
            at_as (slice_get (sides_in level) f) (λ x. IsTrue (is_of r x) × (x.back ≡ lines.behind)) (λ x. IsTrue (leads_off p r x)) (λ x both.
            let own : is_of r x ≡ true = both.0 in
            let far : is_sector x.back p ≡ false = ap (λ o. is_sector o p) both.1 ∙ other in
            rw (own, far) refl)
            (both_at (slice_get (sides_in level) f) (λ x. IsTrue (is_of r x)) (λ x. x.back ≡ lines.behind) first.1.here behind);
        before = λ k less h. first.1.before k less (off_line level p r k h);
      },
    )
    go None is none behind = λ k less h. none k less (off_line level p r k h)

-- a pillar that is harmed in one way, which is none of the others
module _ (level : Level) (p : ℕ) (door : HasNoDoor level p) where
  line-within : (k : ℕ) → IsLineAt level p k → k < length (sides_in level)
  line-within k h = some_within (sides_in level) k (λ x. IsTrue (is_of p x)) h

  pub harmed_no_line : (o : Option ℕ) → o ≡ None → IsFirstBelow (IsLineAt level p) (length (sides_in level)) o → IsHarmedBy level Donut p (NoLine p)
  harmed_no_line o is none =
      (refl, (door, refl, first_none (IsLineAt level p) (length (sides_in level)) line-within (subst (λ (x : Option ℕ). IsFirstBelow (IsLineAt level p) (length (sides_in level)) x) is none)))

  pub first_line : (o : Option ℕ) (f : ℕ) → o ≡ Some f → IsFirstBelow (IsLineAt level p) (length (sides_in level)) o → (f < length (sides_in level)) × IsFirst (IsLineAt level p) f
  first_line o f is first = subst (λ (x : Option ℕ). IsFirstBelow (IsLineAt level p) (length (sides_in level)) x) is first

  pub harmed_no_ring : (f : ℕ) (ring : Option ℕ) → IsFirst (IsLineAt level p) f → ring ≡ None → IsSomeAnd (slice_get (sides_in level) f) (λ sides. ring_across p sides ≡ ring)
      → IsHarmedBy level Donut p (NoRing f p)
  harmed_no_ring f ring first none across =
      (refl, (door, refl, record { first = first; none = subst (λ (o : Option ℕ). IsSomeAnd (slice_get (sides_in level) f) (λ sides. ring_across p sides ≡ o)) none across }))

  pub harmed_open : (f r l : ℕ) → IsFirst (IsLineAt level p) f → IsSomeAnd (slice_get (sides_in level) f) (λ sides. ring_across p sides ≡ Some r)
      → IsFirst (LeadsOffAt level p r) l → IsSomeAnd (slice_get (sides_in level) l) (λ sides. sides.back ≡ None) → IsHarmedBy level Donut p (OpenRing l r)
  harmed_open f r l first across off none = (refl, (door, record { n = f; first = first; ring_is = across; off = off; none = none }))

  -- a pillar with a ring is harmed by an open one alone
  pub ring_alone : (f r : ℕ) → IsFirst (IsLineAt level p) f → IsSomeAnd (slice_get (sides_in level) f) (λ sides. ring_across p sides ≡ Some r)
      → ((l : ℕ) → IsFirst (LeadsOffAt level p r) l → ¬ IsSomeAnd (slice_get (sides_in level) l) (λ sides. sides.back ≡ None)) → (harm : Harm) → ¬ IsHarmedBy level Donut p harm
  ring_alone f r first across closed (NoLine s) h = h.1.2 f first.here
  ring_alone f r first across closed (NoRing l s) h =
      let line : l ≡ f = first_one (IsLineAt level p) l f h.1.2.first first in
      let none = subst (λ n. IsSomeAnd (slice_get (sides_in level) n) (λ sides. ring_across p sides ≡ None)) line h.1.2.none in
      let no : None ≡ Some r = ring_same level p f None (Some r) none across in
      absurd (let gone = no in cc)
  ring_alone f r first across closed (OpenRing l q) h =
      let open_ring = h.1.1 in
      let line : open_ring.n ≡ f = first_one (IsLineAt level p) open_ring.n f open_ring.first first in
      let there = subst (λ n. IsSomeAnd (slice_get (sides_in level) n) (λ sides. ring_across p sides ≡ Some q)) line open_ring.ring_is in
      let rings : Some q ≡ Some r = ring_same level p f (Some q) (Some r) there across in
      let ring : q ≡ r = cc in
      closed l (subst (λ n. IsFirst (LeadsOffAt level p n) l) ring open_ring.off) open_ring.none
  ring_alone f r first across closed harm h = absurd (let other = h.0 in cc)

-- a linedef's back is there or not
pub back_none : (level : Level) (l : ℕ) (b : Bool) → b ≡ false → IsSomeAnd (slice_get (sides_in level) l) (λ sides. b ≡ is_some sides.back)
    → IsSomeAnd (slice_get (sides_in level) l) (λ sides. sides.back ≡ None)
back_none level l b is h =
    at_as (slice_get (sides_in level) l) (λ sides. b ≡ is_some sides.back) (λ sides. sides.back ≡ None) (λ sides told. go sides.back (sym told ∙ is)) h
  where
    go : (o : Option ℕ) → is_some o ≡ false → o ≡ None
    go (Some n) e = absurd (let gone = e in cc)
    go None e = refl

pub back_some : (level : Level) (l : ℕ) (b : Bool) → b ≡ true → IsSomeAnd (slice_get (sides_in level) l) (λ sides. b ≡ is_some sides.back)
    → ¬ IsSomeAnd (slice_get (sides_in level) l) (λ sides. sides.back ≡ None)
back_some level l b is h none =
    from_at (slice_get (sides_in level) l) (λ sides. (b ≡ is_some sides.back) × (sides.back ≡ None)) ⊥ (λ sides both.
    let no : true ≡ false = sym is ∙ both.0 ∙ ap is_some both.1 in absurd (let gone = no in cc))
    (both_at (slice_get (sides_in level) l) (λ sides. b ≡ is_some sides.back) (λ sides. sides.back ≡ None) h none)
