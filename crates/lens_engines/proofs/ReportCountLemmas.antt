-- How many of each code are told, by the ranks of the codes.
use Rattle.std.proofs.Common.{◌≡◌, ℕ, ◌+◌, ◌-◌, ◌^◌, ◌<◌, ◌≤◌, inl, inr, List, drop, take, length, get_or, get_or-take, get_or-drop, length-take, length-drop, refl, sym, ap, ◌∙◌, subst, arith}
use Rattle.std.specs.Prelude.{min, sum, slice_index}
use Rattle.std.proofs.Math.Nat.{min-eq_left, min-eq_right}
use Rattle.std.proofs.lemmas.Bool.{cases_lt}
use Rattle.std.proofs.lemmas.List.{get_or_default, take_all}
use Rattle.std.proofs.lemmas.List.Sums.{sum_by-le, sum_by_more}
use Rattle.level_codes.proofs.CodeLemmas.{code_at-rank, code_rank-at, code_rank-below}
use Rattle.level_codes.specs.Codes.{code_at, code_rank}
use Rattle.level_codes.specs.declared.code.ReportCode.{ReportCode}
use Rattle.level_codes.specs.declared.code.ReportCode.TheVariants as report
use Rattle.level_codes.specs.declared.table.TheConstants.{REPORT_COUNT}
use Rattle.map_audit.specs.Findings.{AuditHolds}
use Rattle.map_level.specs.Findings.{rank}
use Rattle.map_level.specs.Level.{Level}
use Rattle.map_level.specs.declared.finding.Code.{Code}
use Rattle.map_level.specs.declared.search.TheConstants.{CODE_COUNT}
use Rattle.lens_engines.specs.Counts.{AreCounts, IsCount, fault_total, note_total}
use Rattle.lens_engines.specs.Ignored.{HoldsUnlessIgnored, ignores}
use Rattle.lens_engines.specs.ReportCounts.{AreReportCounts, FitReport, count_of, told_count}
use Rattle.lens_engines.specs.Warned.{Warned}
use Rattle.level_codes.specs.declared.set.CodeSet.{CodeSet}
use Rattle.lens_engines.proofs.CountLemmas.{kept_is}

-- the first codes are those of findings
finding_of : (k : ℕ) (code : ReportCode) → code_rank code ≡ k → k < CODE_COUNT → (c : Code) × (code ≡ report.Finding c)
finding_of k (report.Finding c) is below = (c, refl)
finding_of k (report.Warning w) is below = absurd (omega (arith, is, below))

pub finding_at : (k : ℕ) → k < CODE_COUNT → (c : Code) × (code_at k ≡ report.Finding c)
finding_at k below = finding_of k (code_at k) (code_rank-at k (omega (arith, below))) below

-- the numbers at all ranks are those of all codes
pub are_report_counts : (ignored : CodeSet) (level : Level) (found : List ℕ) (warned : List Warned) (counts : List ℕ) → length counts ≡ REPORT_COUNT
    → ((k : ℕ) → k < REPORT_COUNT → get_or counts k 0 ≡ told_count found warned ignored (code_at k))
    → AreCounts (AuditHolds level) found → AreReportCounts ignored level warned counts
are_report_counts ignored level found warned counts long each are =
    let at : (code : ReportCode) → count_of counts code ≡ told_count found warned ignored code =
    λ code. each (code_rank code) (code_rank-below code) ∙ ap (told_count found warned ignored) (code_at-rank code) in
    record {
      all = long;
      findings = λ code. subst (IsCount (HoldsUnlessIgnored ignored level code)) (sym (at (report.Finding code)))
          (kept_is ignored level code (slice_index found (rank code)) (ignores ignored (report.Finding code)) refl (are.each code));
      warnings = λ code. at (report.Warning code);
    }

capped_twice : (a b m : ℕ) → min (min a m + b) m ≡ min (a + b) m
capped_twice a b m = elim (cases_lt a m) [
  | inl below ↦ ap (λ n. min (n + b) m) (min-eq_left (omega (arith, below)))
  | inr past ↦
      ap (λ n. min (n + b) m) (min-eq_right past)
      ∙ min-eq_right (omega arith)
      ∙ sym (min-eq_right (omega (arith, past)))
]

-- a sum with one number more
pub total-more : (counts : List ℕ) (i m : ℕ) → i < length counts
    → min (min (sum (take i counts)) m + get_or counts i 0) m ≡ min (sum (take (i + 1) counts)) m
total-more counts i m below =
    capped_twice (sum (take i counts)) (get_or counts i 0) m ∙ ap (λ n. min n m) (sym (sum_by_more (λ (x : ℕ). x) counts i 0 below))

-- as many numbers of 32 bits as there are codes have a sum of 64 bits
uncapped : (xs : List ℕ) → length xs ≤ CODE_COUNT → ((k : ℕ) → k < length xs → get_or xs k 0 < 2 ^ 32) → min (sum xs) (2 ^ 64 - 1) ≡ sum xs
uncapped xs short few =
    let most = sum_by-le (λ (x : ℕ). x) (2 ^ 32) xs (λ k d within. omega (arith, few k within, get_or_default xs k d 0 within)) in
    min-eq_left (omega (arith, most, short))

pub faults-uncapped : (counts : List ℕ) → FitReport counts → min (fault_total counts) (2 ^ 64 - 1) ≡ fault_total counts
faults-uncapped counts fit =
    let long = length-take 18 counts in
    uncapped (take 18 counts) (omega (arith, long))
    (λ k below. let at = get_or-take 18 counts k 0 (omega (arith, below, long)) in omega (arith, at, fit.few k (omega (arith, below, long))))

pub notes-uncapped : (counts : List ℕ) → FitReport counts → min (note_total counts) (2 ^ 64 - 1) ≡ note_total counts
notes-uncapped counts fit =
    let behind = length-drop 18 counts in
    let long = length-take 12 (drop 18 counts) in
    uncapped (take 12 (drop 18 counts)) (omega (arith, long))
    (λ k below.
    let inside : k < 12 = omega (arith, below, long) in
    let front = get_or-take 12 (drop 18 counts) k 0 inside in
    let there = get_or-drop 18 counts k 0 in
    omega (arith, front, there, fit.few (18 + k) (omega (arith, inside))))

-- the numbers behind those of findings are all that are left
pub warnings-behind : (counts : List ℕ) → FitReport counts → take 25 (drop CODE_COUNT counts) ≡ drop CODE_COUNT counts
warnings-behind counts fit = take_all 25 (drop CODE_COUNT counts) (omega (arith, fit.all, length-drop CODE_COUNT counts))
