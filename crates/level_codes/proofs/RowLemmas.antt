-- The rows of the code, which say what the table defines.
use Rattle.std.proofs.Common.{◌≡◌, ℕ, ◌<◌, List, sym, ap, ◌∙◌, get_or, length, map}
use Rattle.std.proofs.lemmas.List.{get_or-map, length-map}
use Rattle.level_codes.specs.Codes.{code_table, no_row, row_at, view_of}
use Rattle.level_codes.specs.declared.table.Row.{Row}
use Rattle.level_codes.specs.declared.table.TheConstants.{REPORT_COUNT}
use Rattle.level_codes.proofs.CodeLemmas.{table_length}

-- rows that say what is defined are as many, and say it at each rank
pub view_length : (rows : List Row) → map view_of rows ≡ code_table → length rows ≡ REPORT_COUNT
view_length rows same = sym (length-map rows view_of) ∙ ap length same ∙ table_length

pub view_at : (rows : List Row) (k : ℕ) (d : Row) → map view_of rows ≡ code_table → k < REPORT_COUNT → view_of (get_or rows k d) ≡ row_at k
view_at rows k d same h =
    let all : length rows ≡ REPORT_COUNT = view_length rows same in
    sym (get_or-map view_of rows k d no_row (rw all h)) ∙ ap (λ table. get_or table k no_row) same
