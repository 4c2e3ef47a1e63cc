-- How the marks of the sectors' tags come to be.
use Rattle.std.proofs.Common.{◌≡◌, ◌↔◌, ℕ, ◌+◌, ◌<◌, ◌≤◌, ℤ, Bool, true, false, inl, inr, List, length, get_or, set, Some, refl, sym, ap, subst, ◌∙◌, arith, rules}
use Rattle.std.specs.Prelude.{FitsSigned, IsSomeAnd}
use Rattle.std.specs.Int.{cast_unsigned, w16}
use Rattle.std.specs.List.{slice_get}
use Rattle.std.proofs.lemmas.Bool.{cases_eq}
use Rattle.std.proofs.lemmas.List.{get_or-set_other, get_or-set_same, length-set}
use Rattle.le_rec.specs.declared.records.Sector.{Sector}
use Rattle.map_level.specs.Level.{Level}
use Rattle.map_level.specs.Links.{sectors_of}
use Rattle.map_level.proofs.BoundLemmas.{some_within}
use Rattle.map_warnings.specs.Tag.{AreTags}
use Rattle.map_warnings.proofs.TwinLemmas.{same_word}

-- some sector below a number has a tag
abbrev pub IsTagBelow : Level → ℕ → ℤ → Type 0
IsTagBelow level n tag = (s : ℕ) × (s < n) × IsSomeAnd (slice_get (sectors_of level) s) (λ sector. sector.tag ≡ tag)

-- the marks of the sectors below a number
pub record AreTagsBelow (level : Level) (n : ℕ) (tags : List Bool) : Type 0 where
  pub long : length tags ≡ 65536
  pub told : (tag : ℤ) → FitsSigned w16 tag → (get_or tags (cast_unsigned w16 tag) false ≡ true) ↔ IsTagBelow level n tag

pub no_tags : (level : Level) (tags : List Bool) → length tags ≡ 65536 → ((n : ℕ) → get_or tags n false ≡ false) → AreTagsBelow level 0 tags
no_tags level tags long none = record {
  long = long;
  told = λ tag fits. (
    (λ t. absurd (let f : get_or tags (cast_unsigned w16 tag) false ≡ false = none (cast_unsigned w16 tag) in cc)),
    (λ there. absurd (omega (arith, there.1))),
  );
}

-- a sector more
pub tags_more : (level : Level) (n : ℕ) (tags : List Bool) (sector : Sector) → slice_get (sectors_of level) n ≡ Some sector → FitsSigned w16 sector.tag
    → cast_unsigned w16 sector.tag < 65536 → AreTagsBelow level n tags → AreTagsBelow level (n + 1) (set tags (cast_unsigned w16 sector.tag) true)
tags_more level n tags sector at fits below before =
    let key = cast_unsigned w16 sector.tag in
    let here : IsSomeAnd (slice_get (sectors_of level) n) (λ s. s.tag ≡ sector.tag) = rw at search rules in
    record {
      long = length-set tags key true ∙ before.long;
      told = λ tag f. elim (cases_eq (cast_unsigned w16 tag) key) [
        | inl same ↦
            let is : tag ≡ sector.tag = same_word tag sector.tag f fits same in (
              λ t. (n, omega arith, subst (λ z. IsSomeAnd (slice_get (sectors_of level) n) (λ s. s.tag ≡ z)) (sym is) here),
              λ there. let inside : key < length tags = omega (arith, before.long) in rw (same, get_or-set_same) refl,
            )
        | inr other ↦ (
          λ t. let old = (before.told tag f).0 (rw get_or-set_other at t) in (old.0, omega (arith, old.1), old.2),
          λ there. rw get_or-set_other ((before.told tag f).1 (elim (cases_eq there.0 n) [
            | inl last ↦ absurd (other (let p : IsSomeAnd (slice_get (sectors_of level) n) (λ s. s.tag ≡ tag) = rw last at there.2 in let q : sector.tag ≡ tag = rw at at p in ap (cast_unsigned w16) (sym q)))
            | inr earlier ↦ (there.0, omega (arith, there.1, earlier), there.2)
          ])),
        )
      ];
    }

-- all sectors
pub tags_all : (level : Level) (n : ℕ) (tags : List Bool) → length (sectors_of level) ≤ n → AreTagsBelow level n tags → AreTags level tags
tags_all level n tags past before = record {
  long = before.long;
  told = λ tag f. (
    (λ t. let there = (before.told tag f).0 (search rules) in (there.0, there.2)),
    (λ there. let t = (before.told tag f).1 (there.0, omega (arith, past, some_within (sectors_of level) there.0 _ there.1), there.1) in search rules),
  );
}
