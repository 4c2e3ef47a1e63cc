-- How a count goes on as its code is looked for.
use Rattle.std.proofs.Common.{◌≡◌, ◌↔◌, ℕ, ◌+◌, ◌<◌, ◌≤◌, inl, inr, Bool, true, false, List, [], ◌∷◌, ◌++◌, length, get_or, refl, sym, ◌∙◌, subst, arith}
use Rattle.std.specs.Prelude.{AllPairs, Contains, if◌then◌else◌}
use Rattle.std.proofs.lemmas.Bool.{cases_eq, cases_lt, true≢false}
use Rattle.std.proofs.lemmas.List.{length-append}
use Rattle.std.proofs.lemmas.List.Elements.{Contains-push, Contains-push_cases, Contains-append_left, Contains-get_or}
use Rattle.std.proofs.lemmas.List.Quantifiers.{all_pairs_push}
use Rattle.map_level.proofs.FindingLemmas.{rank_at, rank-below, same_from_rank}
use Rattle.map_level.specs.Findings.{rank, IsFirst}
use Rattle.map_level.specs.declared.finding.Code.{Code}
use Rattle.map_level.specs.declared.finding.Code.TheVariants.{F1}
use Rattle.map_audit.specs.Findings.{AuditHolds}
use Rattle.map_level.specs.Level.{Level}
use Rattle.lens_engines.specs.Counts.{IsCount, finding_order}
use Rattle.level_codes.specs.declared.code.ReportCode.TheVariants as report
use Rattle.lens_engines.specs.Ignored.{HoldsUnlessIgnored, ignores}
use Rattle.level_codes.specs.Sets.{no_codes}
use Rattle.lens_engines.specs.LevelLines.{AreIndexes}
use Rattle.level_codes.specs.declared.set.CodeSet.{CodeSet}

-- how many indexes below a number something holds at
pub record IsCountBelow (holds : ℕ → Type 0) (end count : ℕ) : Type 0 where
  pub indexes : List ℕ
  pub ascending : AllPairs (λ a b. a < b) indexes
  pub exact : (i : ℕ) → Contains indexes i ↔ (holds i × (i < end))
  pub counted : count ≡ length indexes

pub none_below : (holds : ℕ → Type 0) → IsCountBelow holds 0 0
none_below holds = record {
  indexes = [];
  ascending = λ i j d before below. absurd (omega (arith, below));
  exact = λ i. (λ there. absurd (omega (arith, there.1)), λ told. absurd (omega (arith, told.1)));
  counted = refl;
}

-- one index more, the first from a number on
pub one_more : (holds : ℕ → Type 0) (from count at : ℕ) → IsCountBelow holds from count → IsFirst holds from at
    → IsCountBelow holds (at + 1) (count + 1)
one_more holds from count at before first =
    let indexes = before.indexes in
    record {
      indexes = indexes ++ at ∷ [];
      ascending = all_pairs_push (λ a b. a < b) indexes at before.ascending (λ k d below.
          let told = ((before.exact (get_or indexes k d)).0 (Contains-get_or indexes k d below)).1 in
          omega (arith, told, first.within));
      exact = λ i. (
        (λ there. elim (Contains-push_cases indexes at i there) [
          | inl old ↦ let told = (before.exact i).0 old in (told.0, omega (arith, told.1, first.within))
          | inr is ↦ subst (λ j. holds j × (j < at + 1)) is (first.here, omega arith)
        ]),
        (λ told. elim (cases_lt i from) [
          | inl below ↦ Contains-append_left indexes (at ∷ []) i ((before.exact i).1 (told.0, below))
          | inr past ↦ elim (cases_eq i at) [
            | inl same ↦ subst (λ j. Contains (indexes ++ at ∷ []) j) (sym same) (Contains-push indexes at)
            | inr other ↦ absurd (first.before i past (omega (arith, told.1, other)) told.0)
          ]
        ]),
      );
      counted = omega (arith, before.counted, length-append indexes (at ∷ []));
    }

-- all are counted where there is none from a number on
pub all_counted : (holds : ℕ → Type 0) (from count : ℕ) → IsCountBelow holds from count → ((i : ℕ) → from ≤ i → ¬ holds i)
    → IsCount holds count
all_counted holds from count before none = record {
  indexes = before.indexes;
  ascending = before.ascending;
  exact = λ i. (
    (λ there. ((before.exact i).0 there).0),
    (λ here. elim (cases_lt i from) [
      | inl below ↦ (before.exact i).1 (here, below)
      | inr past ↦ absurd (none i past here)
    ]),
  );
  counted = before.counted;
}

-- of no codes none is ignored
pub none_ignored_code : (code : Code) → ignores no_codes (report.Finding code) ≡ false
none_ignored_code F1 = refl
none_ignored_code _ = refl

-- what is told of a code that isn't ignored is what holds of it
pub kept_is : (ignored : CodeSet) (level : Level) (code : Code) (n : ℕ) (b : Bool) → ignores ignored (report.Finding code) ≡ b → IsCount (AuditHolds level code) n
    → IsCount (HoldsUnlessIgnored ignored level code) (if b then 0 else n)
kept_is ignored level code n true is count = record {
  indexes = [];
  ascending = λ i j d before below. absurd (omega (arith, below));
  exact = λ i. (λ there. absurd (omega (arith, there.1)), λ told. absurd (true≢false (sym is ∙ told.0)));
  counted = refl;
}
kept_is ignored level code n false is count = record {
  indexes = count.indexes;
  ascending = count.ascending;
  exact = λ i. (λ there. (is, (count.exact i).0 there), λ told. (count.exact i).1 told.1);
  counted = count.counted;
}

-- a code that is told of at all isn't ignored
pub shown_kept : (ignored : CodeSet) (level : Level) (code : Code) (indexes : List ℕ) → 0 < length indexes
    → AreIndexes (HoldsUnlessIgnored ignored level code) indexes → AreIndexes (AuditHolds level code) indexes
shown_kept ignored level code indexes some are =
    let kept = ((are.exact (get_or indexes 0 0)).0 (Contains-get_or indexes 0 0 some)).0 in
    record {
      ascending = are.ascending;
      exact = λ i. (λ there. ((are.exact i).0 there).1, λ holds. (are.exact i).1 (kept, holds));
    }

-- the code at a rank of the order
pub order-rank : (code : Code) → get_or finding_order (rank code) F1 ≡ code
order-rank code = same_from_rank _ code (rank_at (rank code) F1 (rank-below code))
