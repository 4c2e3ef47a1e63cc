-- The order of a report: the codes of the table, findings before warnings.
use Rattle.std.proofs.Common.{◌≡◌, ℕ, ◌+◌, ◌<◌, ◌≤◌, [], ◌∷◌, ◌++◌, Some, length, drop, take, get_or, get_or-take, length-take, ap, ◌∙◌, arith}
use Rattle.std.specs.List.{slice_get}
use Rattle.std.proofs.lemmas.List.{drop-append-le, get_or-map, length-map, take_all, take_more}
use Rattle.std.proofs.lemmas.Option.{slice_get-get_or}
use Rattle.level_codes.proofs.CodeLemmas.{table_length}
use Rattle.level_codes.specs.Codes.{CodeRow, code_at, code_table, no_row, report_order, warning_codes}
use Rattle.level_codes.specs.declared.table.TheConstants.{REPORT_COUNT}
use Rattle.map_level.specs.declared.search.TheConstants.{CODE_COUNT}

-- the order of a report has each code at its rank
pub order-whole : length report_order ≡ REPORT_COUNT
order-whole = length-map code_table (λ (row : CodeRow). row.code) ∙ table_length

pub code-order : (rank : ℕ) → rank < REPORT_COUNT → get_or report_order rank no_row.code ≡ code_at rank
code-order rank below = get_or-map (λ (row : CodeRow). row.code) code_table rank no_row no_row.code (rw table_length below)

-- its first codes
pub order-length : (to : ℕ) → to ≤ REPORT_COUNT → length (take to report_order) ≡ to
order-length to within = omega (arith, within, length-take to report_order, order-whole)

pub order-at : (to rank : ℕ) → rank < to → to ≤ REPORT_COUNT → slice_get (take to report_order) rank ≡ Some (code_at rank)
order-at to rank below within =
    slice_get-get_or (take to report_order) rank no_row.code (omega (arith, below, order-length to within))
    ∙ ap (λ c. Some c) (get_or-take to report_order rank no_row.code below ∙ code-order rank (omega (arith, below, within)))

-- the codes of warnings are all that stand behind the others
pub warnings-behind : drop CODE_COUNT (take REPORT_COUNT report_order) ≡ warning_codes
warnings-behind = ap (drop CODE_COUNT) (take_all REPORT_COUNT report_order (omega (arith, order-whole)))

-- one code of warnings more
pub warnings-more : (rank : ℕ) → CODE_COUNT ≤ rank → rank < REPORT_COUNT
    → drop CODE_COUNT (take (rank + 1) report_order) ≡ drop CODE_COUNT (take rank report_order) ++ code_at rank ∷ []
warnings-more rank behind below =
    ap (drop CODE_COUNT) (take_more report_order rank no_row.code (omega (arith, below, order-whole)) ∙ ap (λ c. take rank report_order ++ c ∷ []) (code-order rank below))
    ∙ drop-append-le CODE_COUNT (take rank report_order) (code_at rank ∷ []) (omega (arith, behind, below, order-length rank (omega (arith, below))))
