-- How the marks of tags come to be.
use Rattle.std.proofs.Common.{◌≡◌, ◌↔◌, ℕ, ◌+◌, ◌<◌, ℤ, Bool, true, false, inl, inr, List, length, get_or, set, Some, None, refl, sym, ap, subst, ◌∙◌, arith}
use Rattle.std.specs.Prelude.{FitsSigned, IsSomeAnd, Option}
use Rattle.std.specs.Int.{cast_signed, cast_unsigned, w16}
use Rattle.std.specs.List.{slice_get}
use Rattle.std.proofs.lemmas.Bool.{cases_eq, cases_lt}
use Rattle.std.proofs.lemmas.Int.{ints, to_z-of_z}
use Rattle.std.proofs.lemmas.List.{get_or-set_other, get_or-set_same}
use Rattle.game_warnings.specs.Tags.{mark_of, AddsTags, AreTags}

pub word-below : (z : ℤ) → FitsSigned w16 z → cast_unsigned w16 z < 65536
word-below z f = omega (arith, ints)

-- two tags are one where their words without the sign are
pub same_word : (a b : ℤ) → FitsSigned w16 a → FitsSigned w16 b → cast_unsigned w16 a ≡ cast_unsigned w16 b → a ≡ b
same_word a b f g e = sym (to_z-of_z w16 a f) ∙ ap (cast_signed w16) e ∙ to_z-of_z w16 b g

-- a mark more
pub adds_one : (marks : List Bool) (tag : ℤ) → length marks ≡ 65536 → FitsSigned w16 tag
    → AddsTags (λ other. other ≡ tag) marks (set marks (cast_unsigned w16 tag) true)
adds_one marks tag long fits other f =
    let key = cast_unsigned w16 tag in
    let inside : key < length marks = omega (arith, long, word-below tag fits) in
    elim (cases_eq (cast_unsigned w16 other) key) [
      | inl same ↦ (
        λ t. inr (same_word other tag f fits same),
        λ h. rw (same, get_or-set_same marks key true false inside) refl,
      )
      | inr differs ↦
          let kept : mark_of (set marks key true) other ≡ mark_of marks other = rw get_or-set_other refl in (
            λ t. inl (sym kept ∙ t),
            λ h. elim h [
              | inl before ↦ kept ∙ before
              | inr is ↦ absurd (differs (ap (cast_unsigned w16) is))
            ],
          )
    ]

-- none more
pub adds_none : (is : ℤ → Type 0) (marks : List Bool) → ((tag : ℤ) → ¬ is tag) → AddsTags is marks marks
adds_none is marks none tag f = (λ t. inl t, λ h. elim h [ inl before ↦ before | inr new ↦ absurd (none tag new) ])

-- those of a kind that has the same tags
pub adds_as : (p r : ℤ → Type 0) (before after : List Bool) → AddsTags p before after → ((tag : ℤ) → p tag ↔ r tag) → AddsTags r before after
adds_as p r before after adds same tag f = (
  λ t. elim ((adds tag f).0 t) [ inl old ↦ inl old | inr new ↦ inr ((same tag).0 new) ],
  λ h. elim h [ inl old ↦ (adds tag f).1 (inl old) | inr new ↦ (adds tag f).1 (inr ((same tag).1 new)) ],
)

-- a tag, either way round
pub adds_same : (tag : ℤ) (before after : List Bool) → AddsTags (λ other. other ≡ tag) before after → AddsTags (λ other. tag ≡ other) before after
adds_same tag before after adds = adds_as (λ other. other ≡ tag) (λ other. tag ≡ other) before after adds (λ other. (λ h. sym h, λ h. sym h))

-- the tags that stand at the first so many numbers
abbrev pub Below : (ℕ → ℤ → Type 0) → ℕ → ℤ → Type 0
Below at n tag = (k : ℕ) × (k < n) × at k tag

pub none_marked : (at : ℕ → ℤ → Type 0) (marks : List Bool) → length marks ≡ 65536 → ((n : ℕ) → get_or marks n false ≡ false)
    → AreTags (Below at 0) marks
none_marked at marks long none = record {
  long = long;
  told = λ tag f. (
    λ t. absurd (let other : get_or marks (cast_unsigned w16 tag) false ≡ false = none (cast_unsigned w16 tag) in let is : get_or marks (cast_unsigned w16 tag) false ≡ true = t in cc),
    λ h. absurd (omega (arith, h.1)),
  );
}

pub marks_more : (at : ℕ → ℤ → Type 0) (n : ℕ) (before after : List Bool) → length after ≡ length before → AreTags (Below at n) before → AddsTags (at n) before after
    → AreTags (Below at (n + 1)) after
marks_more at n before after same are adds = record {
  long = same ∙ are.long;
  told = λ tag f. (
    λ t. elim ((adds tag f).0 t) [
      | inl old ↦ let there = (are.told tag f).0 old in (there.0, omega (arith, there.1), there.2)
      | inr new ↦ (n, omega arith, new)
    ],
    λ h. elim (cases_lt h.0 n) [
      | inl less ↦ (adds tag f).1 (inl ((are.told tag f).1 (h.0, less, h.2)))
      | inr past ↦ let is : h.0 ≡ n = omega (arith, past, h.1) in (adds tag f).1 (inr (subst (λ k. at k tag) is h.2))
    ],
  );
}

pub all_marked : (at : ℕ → ℤ → Type 0) (n : ℕ) (marks : List Bool) → ((k : ℕ) (tag : ℤ) → at k tag → k < n) → AreTags (Below at n) marks
    → AreTags (λ tag. (k : ℕ) × at k tag) marks
all_marked at n marks within are = record {
  long = are.long;
  told = λ tag f. (
    λ t. let there = (are.told tag f).0 t in (there.0, there.2),
    λ h. (are.told tag f).1 (h.0, within h.0 tag h.1, h.1),
  );
}

-- what stands at a number of a list, or doesn't
pub adds_at : {X : Type 0} (xs : List X) (k : ℕ) (x : X) (p : ℤ → X → Type 0) (before after : List Bool) → slice_get xs k ≡ Some x
    → AddsTags (λ tag. p tag x) before after → AddsTags (λ tag. IsSomeAnd (slice_get xs k) (p tag)) before after
adds_at {X} xs k x p before after at adds = subst (λ (found : Option X). AddsTags (λ tag. IsSomeAnd found (p tag)) before after) (sym at) adds

pub adds_past : {X : Type 0} (xs : List X) (k : ℕ) (p : ℤ → X → Type 0) (marks : List Bool) → slice_get xs k ≡ None
    → AddsTags (λ tag. IsSomeAnd (slice_get xs k) (p tag)) marks marks
adds_past {X} xs k p marks at = subst (λ (found : Option X). AddsTags (λ tag. IsSomeAnd found (p tag)) marks marks) (sym at) (adds_none (λ tag. ⊥) marks (λ tag h. h))
