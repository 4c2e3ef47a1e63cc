-- Ends of linedefs by their numbers, and the first linedef that has each.
use Rattle.std.proofs.Common.{◌≡◌, ◌↔◌, ℕ, ◌+◌, ◌*◌, ◌^◌, ◌<◌, ℤ, min, max, [], inl, inr, ◌⊎◌, Some, None, Option, refl, sym, ap, subst, ◌∙◌, arith}
use Rattle.std.specs.Prelude.{FitsSigned, IsSomeAnd}
use Rattle.std.specs.Option.{option_map}
use Rattle.std.specs.Int.{cast_signed, cast_unsigned, w16}
use Rattle.std.specs.BTreeMap.{BTreeMap}
use Rattle.std.proofs.lemmas.Bool.{cases_eq, cases_lt}
use Rattle.std.proofs.lemmas.Int.{ints, to_z-of_z}
use Rattle.std.proofs.lemmas.Option.{same_Some}
use Rattle.le_rec.specs.declared.records.Vertex.{Vertex}
use Rattle.map_level.specs.Level.{Level}
use Rattle.map_warnings.specs.declared.twins.Ends.{Ends}
use Rattle.map_warnings.specs.Twin.{ends_of, IsOnePlace, AreSamePlaces, HaveSameEnds, IsTwin}
use Rattle.map_warnings.specs.EndsKey.{place_number, ends_key, IsShort, AreShortEnds, IsFirstOf, AreFirsts}
use Rattle.map_warnings.specs.declared.warning.Warning.{Warning}
use Rattle.map_warnings.specs.declared.warning.Warning.TheVariants.{Twin, Game}
use Rattle.level_codes.specs.declared.code.WarningCode.TheVariants.{W6}
use Rattle.map_warnings.specs.Warnings.{rank}
use Rattle.map_warnings.specs.Holds.{HoldsOf}
use Rattle.map_warnings.proofs.GameLemmas.{game_only}

-- a word without its sign
pub word-below : (z : ℤ) → FitsSigned w16 z → cast_unsigned w16 z < 65536
word-below z f = omega (arith, ints)

-- the places of numbers
place-below : (v : Vertex) → IsShort v → place_number v < 2 ^ 32
place-below v f = omega (arith, word-below v.x f.0, word-below v.y f.1)

-- two numbers of 16 bits are the same where their words without the sign are
pub same_word : (a b : ℤ) → FitsSigned w16 a → FitsSigned w16 b → cast_unsigned w16 a ≡ cast_unsigned w16 b → a ≡ b
same_word a b f g e = sym (to_z-of_z w16 a f) ∙ ap (cast_signed w16) e ∙ to_z-of_z w16 b g

one_place : (a b : Vertex) → IsShort a → IsShort b → place_number a ≡ place_number b → IsOnePlace a b
one_place a b f g e =
    let ax = word-below a.x f.0 in
    let ay = word-below a.y f.1 in
    let bx = word-below b.x g.0 in
    let by = word-below b.y g.1 in
    (same_word a.x b.x f.0 g.0 (omega (arith, ax, ay, bx, by, e)), same_word a.y b.y f.1 g.1 (omega (arith, ax, ay, bx, by, e)))

place_of_same : (a b : Vertex) → IsOnePlace a b → place_number a ≡ place_number b
place_of_same a b e = rw (e.0, e.1) refl

-- two pairs of numbers, by the lesser and the greater
pairs_same : (p q r s : ℕ) → p < 2 ^ 32 → q < 2 ^ 32 → r < 2 ^ 32 → s < 2 ^ 32
    → min p q * 2 ^ 32 + max p q ≡ min r s * 2 ^ 32 + max r s → ((p ≡ r) × (q ≡ s)) ⊎ ((p ≡ s) × (q ≡ r))
pairs_same p q r s hp hq hr hs e = elim (cases_eq p r) [
  | inl same ↦ inl (same, omega arith)
  | inr other ↦ inr (omega arith, omega arith)
]

pub key_of_same : (a b : Ends) → AreSamePlaces a b → ends_key a ≡ ends_key b
key_of_same a b (inl e) = rw (place_of_same a.from b.from e.0, place_of_same a.to b.to e.1) refl
key_of_same a b (inr e) =
    let from = place_of_same a.from b.to e.0 in
    let to = place_of_same a.to b.from e.1 in
    rw (from, to) (omega arith)

pub same_of_key : (a b : Ends) → AreShortEnds a → AreShortEnds b → ends_key a ≡ ends_key b → AreSamePlaces a b
same_of_key a b f g e = elim (pairs_same (place_number a.from) (place_number a.to) (place_number b.from) (place_number b.to)
    (place-below a.from f.0) (place-below a.to f.1) (place-below b.from g.0) (place-below b.to g.1) e) [
      | inl same ↦ inl (one_place a.from b.from f.0 g.0 same.0, one_place a.to b.to f.1 g.1 same.1)
      | inr turned ↦ inr (one_place a.from b.to f.0 g.1 turned.0, one_place a.to b.from f.1 g.0 turned.1)
    ]

same_from_key : (o : Option Ends) (b : Ends) → IsSomeAnd o AreShortEnds → AreShortEnds b
    → option_map ends_key o ≡ Some (ends_key b) → IsSomeAnd o (λ a. AreSamePlaces a b)
same_from_key (Some a) b f g e = same_of_key a b f g (same_Some (ends_key a) (ends_key b) e)
same_from_key None b f g e = absurd f

key_from_same : (o : Option Ends) (b : Ends) → IsSomeAnd o (λ a. AreSamePlaces a b) → option_map ends_key o ≡ Some (ends_key b)
key_from_same (Some a) b same = ap Some (key_of_same a b same)
key_from_same None b same = absurd same

module _ (level : Level) (i e : ℕ) (ends : Ends) (at : ends_of level i ≡ Some ends) (short : AreShortEnds ends)
    (first : IsFirstOf level (ends_key ends) e) where
  none_before : (j : ℕ) → j < e → ¬ HaveSameEnds level j i
  none_before j below same =
      let told : IsSomeAnd (ends_of level j) (λ a. AreSamePlaces a ends) = rw at at same in
      first.first j below (key_from_same (ends_of level j) ends told)

  first_same : HaveSameEnds level e i
  first_same = rw at (same_from_key (ends_of level e) ends first.short short first.there)

  -- a linedef is a twin exactly where the first with its ends stands before it
  pub twin_tells : (e < i) ↔ HoldsOf level W6 (Twin i e)
  twin_tells = (
    λ before. (refl, record { before = before; same = first_same; first = none_before }),
    λ h. h.1.before,
  )

  pub twin_alone : (w : Warning) → HoldsOf level W6 w → rank w ≡ i → w ≡ Twin i e
  twin_alone (Twin k j) h same =
      let here : IsTwin level i j = subst (λ n. IsTwin level n j) same h.1 in
      let is : j ≡ e = elim (cases_lt j e) [
        | inl less ↦ absurd (none_before j less here.same)
        | inr past ↦ elim (cases_eq e j) [
          | inl equal ↦ sym equal
          | inr other ↦ absurd (here.first e (omega (arith, past, other)) first_same)
        ]
      ] in
      rw (same, is) refl
  twin_alone (Game w) h same = absurd (game_only None level W6 w refl h)
  twin_alone v h same = absurd (let other = h.0 in cc)

-- an Option that two facts want
pub both_some : (o p : Option Ends) (P : Ends → Ends → Type 0) → IsSomeAnd o (λ a. IsSomeAnd p (P a)) → p ≡ None → ⊥
both_some (Some a) None P h none = h
both_some (Some a) (Some b) P h none = absurd (let f : ⊥ = cc in f)
both_some None p P h none = h

-- none is a twin whose ends aren't there
pub no_twin : (level : Level) (i : ℕ) → ends_of level i ≡ None → (w : Warning) → HoldsOf level W6 w → rank w ≡ i → ⊥
no_twin level i none (Twin k j) h same = both_some (ends_of level j) (ends_of level k) AreSamePlaces h.1.same (ap (ends_of level) same ∙ none)
no_twin level i none (Game w) h same = game_only None level W6 w refl h
no_twin level i none v h same = let other = h.0 in cc

-- no linedef is the first of its ends yet
pub no_firsts : (level : Level) (firsts : BTreeMap ℕ ℕ) → firsts.entries ≡ [] → AreFirsts level 0 firsts
no_firsts level firsts empty = record { each = λ key. rw empty (λ j below. absurd (omega (arith, below))) }
