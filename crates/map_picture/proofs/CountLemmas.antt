-- Findings that are counted one after another.
use Rattle.std.proofs.Common.{◌≡◌, ℕ, ◌+◌, ◌^◌, ◌<◌, ◌≤◌, inl, inr, Bool, true, false, cond, [], ◌∷◌, ◌++◌, refl, sym, ap, ◌∙◌, arith}
use Rattle.std.specs.Prelude.{if◌then◌else◌, not}
use Rattle.std.proofs.lemmas.Bool.{cases_lt}
use Rattle.std.proofs.lemmas.List.Sums.{sum_by_push}
use Rattle.map_level.proofs.FindingLemmas.{found_all, found_code, found_more, found_no_more}
use Rattle.map_level.specs.Findings.{IsFirst, is_fault, rank}
use Rattle.map_level.specs.declared.finding.Code.{Code}
use Rattle.map_level.specs.declared.finding.Finding.{Finding}
use Rattle.map_level.specs.declared.search.TheConstants.{CODE_COUNT}
use Rattle.map_picture.specs.Counts.{CountsBelow, CountsFindings, counts_of}
use Rattle.map_picture.specs.declared.finding_counts.FindingCounts.{FindingCounts}

same_counts : (a b : FindingCounts) → a.faults ≡ b.faults → a.notes ≡ b.notes → a ≡ b
same_counts a b faults notes =
    ap (λ n. let x : FindingCounts = record { faults = n; notes = a.notes } in x) faults
    ∙ ap (λ n. let x : FindingCounts = record { faults = b.faults; notes = n } in x) notes

-- what a test adds to a count
abbrev weigh : Bool → ℕ
weigh b = cond b 1 0

-- a finding is a fault or a note
one_of_both : (b : Bool) → weigh b + weigh (not b) ≡ 1
one_of_both true = refl
one_of_both false = refl

module _ (holds : Code → ℕ → Type 0) where
  -- none yet
  pub counts-none : (counts : FindingCounts) → counts ≡ counts_of [] → CountsBelow holds 0 0 counts
  counts-none counts none = record {
    found = [];
    are = record {
      ascending = λ i j d before below. absurd (omega (arith, below));
      exact = λ f. (
        (λ there. absurd (omega (arith, there.1))),
        (λ told. elim told.1 [ inl less ↦ absurd (omega (arith, less)) | inr same ↦ absurd (omega (arith, same.1)) ]),
      );
    };
    counted = none;
    few = omega (arith, ap (λ (c : FindingCounts). c.faults) none, ap (λ (c : FindingCounts). c.notes) none);
  }

  -- one finding more, the first of its code from an index on
  pub counts-more : (code : Code) (from at : ℕ) (before after : FindingCounts) → CountsBelow holds (rank code) from before → IsFirst (holds code) from at
      → after.faults ≡ before.faults + (if is_fault code then 1 else 0) → after.notes ≡ before.notes + (if not (is_fault code) then 1 else 0)
      → CountsBelow holds (rank code) (at + 1) after
  counts-more code from at before after was first faults notes =
      let f : Finding = record { code = code; index = at } in
      let found = was.found in
      record {
        found = found ++ f ∷ [];
        are = found_more holds found f (found_no_more holds found code from at was.are first.within first.before) first.here;
        counted =
            same_counts after (counts_of (found ++ f ∷ []))
            (faults ∙ ap (λ (c : FindingCounts). c.faults + weigh (is_fault code)) was.counted ∙ sym (sum_by_push (λ (g : Finding). weigh (is_fault g.code)) found f))
            (notes ∙ ap (λ (c : FindingCounts). c.notes + weigh (not (is_fault code))) was.counted ∙ sym (sum_by_push (λ (g : Finding). weigh (not (is_fault g.code))) found f));
        few = omega (arith, was.few, first.within, faults, notes, one_of_both (is_fault code));
      }

  -- all findings of a code
  pub counts-code : (code : Code) (from : ℕ) (counts : FindingCounts) → CountsBelow holds (rank code) from counts → from < 2 ^ 32
      → ((i : ℕ) → from ≤ i → ¬ holds code i) → CountsBelow holds (rank code + 1) 0 counts
  counts-code code from counts was small none = record {
    found = was.found;
    are = found_code holds was.found code from was.are (λ i here. elim (cases_lt i from) [ inl below ↦ below | inr past ↦ absurd (none i past here) ]);
    counted = was.counted;
    few = omega (arith, was.few, small);
  }

  -- all findings
  pub counts-all : (counts : FindingCounts) → CountsBelow holds CODE_COUNT 0 counts → CountsFindings holds counts
  counts-all counts was = record { found = was.found; are = found_all holds was.found was.are; counted = was.counted }
