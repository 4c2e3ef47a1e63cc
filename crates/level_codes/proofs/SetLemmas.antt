-- Sets of codes, by the ranks of their codes.
use Rattle.std.proofs.Common.{◌≡◌, ℕ, ◌<◌, List, Option, Some, None, sym, ap, ◌∙◌, arith, get_or, inl, inr, length, map}
use Rattle.std.specs.Prelude.{Bool, IfNone, false}
use Rattle.std.proofs.lemmas.List.{ext_get_or, get_or-map, get_or-replicate, length-map}
use Rattle.level_codes.specs.Codes.{CodeRow, code_at, code_rank, code_table, no_row, report_order}
use Rattle.level_codes.specs.Sets.{IsCalled, IsSpan, IsWritten, has, no_codes, set_of}
use Rattle.level_codes.specs.declared.code.ReportCode.{ReportCode}
use Rattle.level_codes.specs.declared.set.CodeSet.{CodeSet}
use Rattle.level_codes.specs.declared.table.TheConstants.{REPORT_COUNT}
use Rattle.level_codes.proofs.CodeLemmas.{code_at-rank, code_rank-below, table_length}

order_length : length report_order ≡ REPORT_COUNT
order_length = length-map code_table (λ (row : CodeRow). row.code) ∙ table_length

order_at : (k : ℕ) → k < REPORT_COUNT → get_or report_order k no_row.code ≡ code_at k
order_at k h = get_or-map (λ (row : CodeRow). row.code) code_table k no_row no_row.code (rw table_length h)

-- the set that has the codes of these ranks
abbrev at_ranks : List Bool → CodeSet
at_ranks codes = record { codes = codes }

-- a set is the one of a test that says of each code whether the code is in it
pub same_set : (codes : List Bool) (test : ReportCode → Bool) → length codes ≡ REPORT_COUNT
    → ((k : ℕ) → k < REPORT_COUNT → get_or codes k false ≡ test (code_at k)) → (set : CodeSet) → set.codes ≡ codes → set ≡ set_of test
same_set codes test long each set is =
    let same = ext_get_or false codes (map test report_order) (long ∙ sym (length-map report_order test ∙ order_length))
    (λ k h.
    let below : k < REPORT_COUNT = omega (arith, long, h) in
    each k below ∙ ap test (sym (order_at k below)) ∙ sym (get_or-map test report_order k no_row.code false (rw order_length below))) in
    ap at_ranks (is ∙ same)

pub has-set_of : (test : ReportCode → Bool) (code : ReportCode) → has (set_of test) code ≡ test code
has-set_of test code =
    get_or-map test report_order (code_rank code) no_row.code false (rw order_length (code_rank-below code))
    ∙ ap test (order_at (code_rank code) (code_rank-below code) ∙ code_at-rank code)

pub has-none : (code : ReportCode) → has no_codes code ≡ false
has-none code = get_or-replicate REPORT_COUNT (code_rank code) false false (code_rank-below code)

-- a word that is neither one code nor a range writes none out
pub unwritten : (word : List ℕ) (result : Option CodeSet) → ((code : ReportCode) → ¬ IsCalled word code)
    → IfNone result ((set : CodeSet) → ¬ IsSpan word set) → IfNone result ((set : CodeSet) → ¬ IsWritten word set)
unwritten word None one span = λ set written. elim written [
  | inl called ↦ one called.0 called.1
  | inr range ↦ span set range
]
unwritten word (Some set) one span = tt
