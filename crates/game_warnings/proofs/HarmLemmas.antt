-- A sector is harmed in one way by an effect, and so is a tag.
use Rattle.std.proofs.Common.{◌≡◌, ◌↔◌, ℕ, ◌+◌, ◌<◌, ◌≤◌, ℤ, true, false, inl, inr, List, [], ◌∷◌, ◌++◌, length, get_or, set, Option, Some, None, refl, sym, ap, subst, ◌∙◌, arith}
use Rattle.std.specs.Prelude.{FitsSigned, IfNone, IfSome, IsSomeAnd, IsTrue, is_some}
use Rattle.std.specs.Int.{cast_unsigned, w16}
use Rattle.std.specs.List.{slice_get}
use Rattle.std.proofs.lemmas.Bool.{cases_eq, cases_lt}
use Rattle.std.proofs.lemmas.List.{get_or-set_other, get_or-set_same, get_or_append_left, get_or_past, get_or_push, length-append, length-set}
use Rattle.le_rec.specs.declared.records.Sector.{Sector}
use Rattle.map_level.specs.Level.{Level}
use Rattle.map_level.specs.Links.{linedefs_of, sectors_of}
use Rattle.map_level.proofs.BoundLemmas.{some_within}
use Rattle.game_warnings.specs.Donut.{ring_across, LeadsOffAt}
use Rattle.game_warnings.specs.First.{IsFirst}
use Rattle.game_warnings.specs.Harm.{effect_of, has_effect, DoesHarm, AreHarms, AreHarmsBelow, AreHarmsKept, AreHarmsWhere, ArePlain, HarmsNone, IsEffectTag, IsFirstHarm, IsHarmBelow, IsHarmedBy, IsHarmedSector, IsHarmOf, IsTagPlace}
use Rattle.game_warnings.specs.Sides.{sides_in, IsLineAt}
use Rattle.game_warnings.specs.Holds.{HoldsOf}
use Rattle.game_warnings.specs.Tags.{HasTag}
use Rattle.game_warnings.specs.declared.code.GameCode.TheVariants.{W17}
use Rattle.game_warnings.specs.declared.warning.GameWarning.TheVariants.{Harmful}
use Rattle.le_rec.specs.declared.records.LineDef.{LineDef}
use Rattle.game_warnings.specs.declared.warning.Effect.{Effect}
use Rattle.game_warnings.specs.declared.warning.Harm.{Harm}
use Rattle.game_warnings.specs.declared.warning.Harm.TheVariants.{NoLine, NoRing, OpenRing, ManyNeighbours, NoNeighbour}
use Rattle.game_warnings.proofs.FirstLemmas.{at_as, at_some, both_at, first_one, from_at}
use Rattle.game_warnings.proofs.TagLemmas.{same_word, word-below}

-- one ring at most lies across a linedef
pub ring_same : (level : Level) (p k : ℕ) (a b : Option ℕ) → IsSomeAnd (slice_get (sides_in level) k) (λ sides. ring_across p sides ≡ a)
    → IsSomeAnd (slice_get (sides_in level) k) (λ sides. ring_across p sides ≡ b) → a ≡ b
ring_same level p k a b h1 h2 =
    from_at (slice_get (sides_in level) k) (λ sides. (ring_across p sides ≡ a) × (ring_across p sides ≡ b)) (a ≡ b) (λ sides both. sym both.0 ∙ both.1)
    (both_at (slice_get (sides_in level) k) (λ sides. ring_across p sides ≡ a) (λ sides. ring_across p sides ≡ b) h1 h2)

ring_at : (level : Level) (p k m : ℕ) (a : Option ℕ) → k ≡ m → IsSomeAnd (slice_get (sides_in level) k) (λ sides. ring_across p sides ≡ a)
    → IsSomeAnd (slice_get (sides_in level) m) (λ sides. ring_across p sides ≡ a)
ring_at level p k m a same h = subst (λ n. IsSomeAnd (slice_get (sides_in level) n) (λ sides. ring_across p sides ≡ a)) same h

some_number : (a b : ℕ) → Some a ≡ Some b → a ≡ b
some_number a b e = cc

pub harm_one : (level : Level) (effect : Effect) (s : ℕ) (a b : Harm) → IsHarmedBy level effect s a → IsHarmedBy level effect s b → a ≡ b
harm_one level effect s (NoLine p) (NoLine q) h1 h2 = ap NoLine (h1.1.1 ∙ sym h2.1.1)
harm_one level effect s (NoLine p) (NoRing l q) h1 h2 = absurd (h1.1.2 l h2.1.2.first.here)
harm_one level effect s (NoLine p) (OpenRing l r) h1 h2 = absurd (h1.1.2 h2.1.1.n h2.1.1.first.here)
harm_one level effect s (NoRing l p) (NoLine q) h1 h2 = absurd (h2.1.2 l h1.1.2.first.here)
harm_one level effect s (NoRing l p) (NoRing m q) h1 h2 =
    let line : l ≡ m = first_one (IsLineAt level s) l m h1.1.2.first h2.1.2.first in
    let sector : p ≡ q = h1.1.1 ∙ sym h2.1.1 in
    rw (line, sector) refl
harm_one level effect s (NoRing l p) (OpenRing m r) h1 h2 =
    let line : l ≡ h2.1.1.n = first_one (IsLineAt level s) l h2.1.1.n h1.1.2.first h2.1.1.first in
    let other : None ≡ Some r = ring_same level s h2.1.1.n None (Some r) (ring_at level s l h2.1.1.n None line h1.1.2.none) h2.1.1.ring_is in
    absurd (let no = other in cc)
harm_one level effect s (OpenRing l r) (NoLine q) h1 h2 = absurd (h2.1.2 h1.1.1.n h1.1.1.first.here)
harm_one level effect s (OpenRing l r) (NoRing m q) h1 h2 =
    let line : m ≡ h1.1.1.n = first_one (IsLineAt level s) m h1.1.1.n h2.1.2.first h1.1.1.first in
    let other : None ≡ Some r = ring_same level s h1.1.1.n None (Some r) (ring_at level s m h1.1.1.n None line h2.1.2.none) h1.1.1.ring_is in
    absurd (let no = other in cc)
harm_one level effect s (OpenRing l r) (OpenRing m q) h1 h2 =
    let line : h1.1.1.n ≡ h2.1.1.n = first_one (IsLineAt level s) h1.1.1.n h2.1.1.n h1.1.1.first h2.1.1.first in
    let rings : Some r ≡ Some q = ring_same level s h2.1.1.n (Some r) (Some q) (ring_at level s h1.1.1.n h2.1.1.n (Some r) line h1.1.1.ring_is) h2.1.1.ring_is in
    let ring = some_number r q rings in
    let off : l ≡ m = first_one (LeadsOffAt level s q) l m (subst (λ n. IsFirst (LeadsOffAt level s n) l) ring h1.1.1.off) h2.1.1.off in
    rw (off, ring) refl
harm_one level effect s (ManyNeighbours p n) (ManyNeighbours q m) h1 h2 =
    let sector : p ≡ q = h1.1.0 ∙ sym h2.1.0 in
    let count : n ≡ m = h1.1.1.are ∙ sym h2.1.1.are in
    rw (sector, count) refl
harm_one level effect s (NoNeighbour p n) (NoNeighbour q m) h1 h2 =
    let sector : p ≡ q = h1.1.1 ∙ sym h2.1.1 in
    let height : n ≡ m = h1.1.2.is ∙ sym h2.1.2.is in
    rw (sector, height) refl
harm_one level effect s a b h1 h2 = absurd (let same : effect_of a ≡ effect_of b = h1.0 ∙ sym h2.0 in cc)

pub first_harm_one : (level : Level) (effect : Effect) (tag : ℤ) (a b : Harm) → IsFirstHarm level effect tag a → IsFirstHarm level effect tag b → a ≡ b
first_harm_one level effect tag a b h1 h2 = elim (cases_lt h1.sector h2.sector) [
  | inl less ↦ absurd (h2.first h1.sector a less h1.tagged h1.is)
  | inr upto ↦ elim (cases_lt h2.sector h1.sector) [
    | inl more ↦ absurd (h1.first h2.sector b more h2.tagged h2.is)
    | inr past ↦
        let same : h1.sector ≡ h2.sector = omega (arith, upto, past) in
        harm_one level effect h2.sector a b (subst (λ s. IsHarmedBy level effect s a) same h1.is) h2.is
  ]
]

-- before any sector no harm is known
pub none_below : (level : Level) (effect : Effect) (harms : List (Option Harm)) → length harms ≡ 65536 → ((n : ℕ) → get_or harms n None ≡ None)
    → AreHarmsBelow level effect 0 harms
none_below level effect harms long none = record {
  long = long;
  told = λ tag f. rw (none (cast_unsigned w16 tag)) (λ s harm below. absurd (omega (arith, below)));
}

-- behind all sectors those of the tags are known
harm_all : (level : Level) (effect : Effect) (tag : ℤ) (n : ℕ) (o : Option Harm) → length (sectors_of level) ≤ n → IsHarmBelow level effect tag n o → IsHarmOf level effect tag o
harm_all level effect tag n (Some harm) past is = is.first
harm_all level effect tag n None past none = λ s harm tagged.
    none s harm (omega (arith, past, some_within (sectors_of level) s _ tagged)) tagged

pub harms_all : (level : Level) (effect : Effect) (n : ℕ) (harms : List (Option Harm)) → length (sectors_of level) ≤ n → AreHarmsBelow level effect n harms
    → AreHarms level effect harms
harms_all level effect n harms past are = record {
  long = are.long;
  told = λ tag f. harm_all level effect tag n (get_or harms (cast_unsigned w16 tag) None) past (are.told tag f);
}

-- one sector more
module _ (level : Level) (effect : Effect) (n : ℕ) (sector : Sector) (at : slice_get (sectors_of level) n ≡ Some sector) where
  tag_here : (tag : ℤ) → HasTag level n tag → sector.tag ≡ tag
  tag_here tag h = subst (λ (o : Option Sector). IsSomeAnd o (λ sector. sector.tag ≡ tag)) at h

  -- which doesn't change what is known of a tag: another has it, or its harm is known, or none harms it
  harm_kept : (tag : ℤ) (o : Option Harm) → ((o ≡ None) → (harm : Harm) → HasTag level n tag → ¬ IsHarmedBy level effect n harm) → IsHarmBelow level effect tag n o
      → IsHarmBelow level effect tag (n + 1) o
  harm_kept tag (Some harm) none is = record { first = is.first; below = omega (arith, is.below) }
  harm_kept tag None none is = λ s harm below tagged. elim (cases_lt s n) [
    | inl less ↦ is s harm less tagged
    | inr past ↦
        let here : s ≡ n = omega (arith, past, below) in
        λ h. none refl harm (subst (λ k. HasTag level k tag) here tagged) (subst (λ k. IsHarmedBy level effect k harm) here h)
  ]

  -- or which is the first of its tag that is harmed
  harm_new : (tag : ℤ) (harm : Harm) → HasTag level n tag → IsHarmedBy level effect n harm → IsHarmBelow level effect tag n None
      → IsHarmBelow level effect tag (n + 1) (Some harm)
  harm_new tag harm tagged is none = record {
    first = record { sector = n; tagged = tagged; is = is; first = λ s other less. none s other less };
    below = omega arith;
  }

  -- a sector of a tag whose harm is known
  pub harms_known : (harms : List (Option Harm)) (harm : Harm) → FitsSigned w16 sector.tag → get_or harms (cast_unsigned w16 sector.tag) None ≡ Some harm
      → AreHarmsBelow level effect n harms → AreHarmsBelow level effect (n + 1) harms
  harms_known harms harm fits known are = record {
    long = are.long;
    told = λ tag f. harm_kept tag (get_or harms (cast_unsigned w16 tag) None) (λ none other tagged.
        absurd (let same = tag_here tag tagged in
        let here : get_or harms (cast_unsigned w16 tag) None ≡ Some harm = ap (λ t. get_or harms (cast_unsigned w16 t) None) (sym same) ∙ known in
        let no : None ≡ Some harm = sym none ∙ here in cc)) (are.told tag f);
  }

  -- a sector that is harmed, or isn't
  harm_put : (tag : ℤ) (o : Option Harm) → HasTag level n tag → IsHarmBelow level effect tag n None
      → ((harm : Harm) → o ≡ Some harm → IsHarmedBy level effect n harm) → (o ≡ None → (harm : Harm) → ¬ IsHarmedBy level effect n harm)
      → IsHarmBelow level effect tag (n + 1) o
  harm_put tag (Some harm) tagged before some none = harm_new tag harm tagged (some harm refl) before
  harm_put tag None tagged before some none = harm_kept tag None (λ e harm _. none refl harm) before

  pub harms_put : (harms : List (Option Harm)) (o : Option Harm) → FitsSigned w16 sector.tag → get_or harms (cast_unsigned w16 sector.tag) None ≡ None
      → ((harm : Harm) → o ≡ Some harm → IsHarmedBy level effect n harm) → (o ≡ None → (harm : Harm) → ¬ IsHarmedBy level effect n harm)
      → AreHarmsBelow level effect n harms → AreHarmsBelow level effect (n + 1) (set harms (cast_unsigned w16 sector.tag) o)
  harms_put harms o fits free some none are =
      let key = cast_unsigned w16 sector.tag in
      let inside : key < length harms = omega (arith, are.long, word-below sector.tag fits) in
      record {
        long = simp length-set are.long;
        told = λ tag f. elim (cases_eq (cast_unsigned w16 tag) key) [
          | inl same ↦
              let is : tag ≡ sector.tag = same_word tag sector.tag f fits same in
              let before : IsHarmBelow level effect tag n None = subst (IsHarmBelow level effect tag n) (ap (λ k. get_or harms k None) same ∙ free) (are.told tag f) in
              let tagged : HasTag level n tag = subst (λ (x : Option Sector). IsSomeAnd x (λ sector. sector.tag ≡ tag)) (sym at) (sym is) in
              rw (same, get_or-set_same harms key o None inside) (harm_put tag o tagged before some none)
          | inr differs ↦
              let kept : get_or (set harms key o) (cast_unsigned w16 tag) None ≡ get_or harms (cast_unsigned w16 tag) None = rw get_or-set_other refl in
              rw kept (harm_kept tag (get_or harms (cast_unsigned w16 tag) None) (λ e harm tagged.
              absurd (differs (ap (cast_unsigned w16) (sym (tag_here tag tagged))))) (are.told tag f))
        ];
      }

-- tags without a harm
pub no_harms : ArePlain 0 []
no_harms = record { long = refl; none = λ k. grind arith }

pub plain_more : (n : ℕ) (harms : List (Option Harm)) → ArePlain n harms → ArePlain (n + 1) (harms ++ None ∷ [])
plain_more n harms are = record {
  long = omega (arith, length-append harms (None ∷ []), are.long);
  none = λ k. elim (cases_lt k (length harms)) [
    | inl less ↦ get_or_append_left harms (None ∷ []) None k less ∙ are.none k
    | inr past ↦ elim (cases_eq k (length harms)) [
      | inl here ↦ get_or_push harms None None k (sym here)
      | inr far ↦ get_or_past (harms ++ None ∷ []) k None (omega (arith, past, far, length-append harms (None ∷ [])))
    ]
  ];
}

pub plain_below : (level : Level) (effect : Effect) (harms : List (Option Harm)) → ArePlain 65536 harms → AreHarmsBelow level effect 0 harms
plain_below level effect harms are = none_below level effect harms are.long are.none

-- the first harm of a tag is of the effect
pub first_effect : (level : Level) (effect : Effect) (tag : ℤ) (harm : Harm) → IsFirstHarm level effect tag harm → effect_of harm ≡ effect
first_effect level effect tag harm first = first.is.0

-- whether a linedef does harm by an effect
pub does_other : (level : Level) (effect : Effect) (linedef : LineDef) → has_effect effect linedef.special ≡ false → (harm : Harm) → effect_of harm ≡ effect
    → ¬ DoesHarm level harm linedef
does_other level effect linedef none harm is does =
    let has : has_effect effect linedef.special ≡ true = subst (λ e. has_effect e linedef.special ≡ true) is does.special in
    let no : false ≡ true = sym none ∙ has in
    absurd (let gone = no in cc)

pub does_none : (level : Level) (effect : Effect) (linedef : LineDef) → IsHarmOf level effect linedef.tag None → (harm : Harm) → effect_of harm ≡ effect
    → ¬ DoesHarm level harm linedef
does_none level effect linedef none harm is does =
    none does.first.sector harm does.first.tagged (is, does.first.is.1)

pub does_first : (level : Level) (i : ℕ) (effect : Effect) (linedef : LineDef) → slice_get (linedefs_of level) i ≡ Some linedef → (harm : Harm)
    → IsFirstHarm level effect linedef.tag harm → has_effect effect linedef.special ≡ true → IsTrue true ↔ HoldsOf level W17 (Harmful i harm)
does_first level i effect linedef at harm first has =
    let is = first.is.0 in (
      λ _. (
        refl,
        at_some (slice_get (linedefs_of level) i) linedef (DoesHarm level harm) at (record {
          special = subst (λ e. has_effect e linedef.special ≡ true) (sym is) has;
          first = subst (λ e. IsFirstHarm level e linedef.tag harm) (sym is) first;
        }),
      ),
      λ _. refl,
    )

-- one sector more, by the place of its tag
module _ (level : Level) (effect : Effect) (n at : ℕ) (place : IsTagPlace level n at) where
  with_sector : (Q : Type 0) → ((sector : Sector) → slice_get (sectors_of level) n ≡ Some sector → at ≡ cast_unsigned w16 sector.tag → FitsSigned w16 sector.tag → Q) → Q
  with_sector Q gives = go (slice_get (sectors_of level) n) refl place
    where
      go : (o : Option Sector) → slice_get (sectors_of level) n ≡ o → IsSomeAnd o (λ sector. (at ≡ cast_unsigned w16 sector.tag) × FitsSigned w16 sector.tag) → Q
      go (Some sector) here is = gives sector here is.0 is.1
      go None here is = absurd is

  pub place_known : (harms : List (Option Harm)) → is_some (get_or harms at None) ≡ true → AreHarmsBelow level effect n harms → AreHarmsBelow level effect (n + 1) harms
  place_known harms known are = with_sector (AreHarmsBelow level effect (n + 1) harms) (λ sector here same fits. go sector here same fits (get_or harms at None) refl known)
    where
      go : (sector : Sector) → slice_get (sectors_of level) n ≡ Some sector → at ≡ cast_unsigned w16 sector.tag → FitsSigned w16 sector.tag → (o : Option Harm)
          → get_or harms at None ≡ o → is_some o ≡ true → AreHarmsBelow level effect (n + 1) harms
      go sector here same fits (Some harm) is some = harms_known level effect n sector here harms harm fits (ap (λ k. get_or harms k None) (sym same) ∙ is) are
      go sector here same fits None is some = absurd (let gone = some in cc)

  pub place_put : (harms : List (Option Harm)) (o : Option Harm) → is_some (get_or harms at None) ≡ false → IfSome o (IsHarmedBy level effect n)
      → IfNone o ((harm : Harm) → ¬ IsHarmedBy level effect n harm) → AreHarmsBelow level effect n harms → AreHarmsBelow level effect (n + 1) (set harms at o)
  place_put harms o free some none are =
      with_sector (AreHarmsBelow level effect (n + 1) (set harms at o)) (λ sector here same fits.
      subst (λ k. AreHarmsBelow level effect (n + 1) (set harms k o)) (sym same)
      (harms_put level effect n sector here harms o fits (ap (λ k. get_or harms k None) (sym same) ∙ nothing (get_or harms at None) free)
      (λ harm is. subst (λ (x : Option Harm). IfSome x (IsHarmedBy level effect n)) is some)
      (λ is. subst (λ (x : Option Harm). IfNone x ((harm : Harm) → ¬ IsHarmedBy level effect n harm)) is none) are))
    where
      nothing : (o : Option Harm) → is_some o ≡ false → o ≡ None
      nothing (Some harm) e = absurd (let gone = e in cc)
      nothing None e = refl

-- where a linedef has the effect, the harms are known
pub known_harms : (level : Level) (effect : Effect) (i : ℕ) (linedef : LineDef) (harms : List (Option Harm)) → slice_get (linedefs_of level) i ≡ Some linedef
    → has_effect effect linedef.special ≡ true → AreHarmsWhere level effect harms → AreHarmsKept level effect harms
known_harms level effect i linedef harms at has (inl none) =
    absurd (none.1 i (at_some (slice_get (linedefs_of level) i) linedef (λ l. IsTrue (has_effect effect l.special)) at has))
known_harms level effect i linedef harms at has (inr are) = are

-- where no sector with the tag of a linedef with the effect is harmed, none of such a tag is
pub none_harmed : (level : Level) (effect : Effect) → ((s : ℕ) → ¬ IsHarmedSector level effect s) → HarmsNone level effect
none_harmed level effect none tag named s harm tagged is =
    none s (record {
      tagged =
          at_as (slice_get (sectors_of level) s) (λ sector. sector.tag ≡ tag) (λ sector. IsEffectTag level effect sector.tag)
          (λ sector same. subst (IsEffectTag level effect) (sym same) named) tagged;
      harm = harm;
      is = is;
    })
