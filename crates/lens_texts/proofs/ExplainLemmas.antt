-- The list of codes: how many lines it has, and the line of a rank.
use Rattle.std.proofs.Common.{◌≡◌, ℕ, ◌<◌, [], ap, ◌∙◌, length}
use Rattle.std.specs.Prelude.{slice_index_or}
use Rattle.std.proofs.lemmas.List.{get_or-map, length-map}
use Rattle.level_codes.proofs.CodeLemmas.{table_length}
use Rattle.level_codes.specs.Codes.{CodeRow, code_at, code_table, no_row, report_order}
use Rattle.level_codes.specs.declared.table.TheConstants.{REPORT_COUNT}
use Rattle.lens_texts.specs.Explain.{code_lines, list_line}

order_length : length report_order ≡ REPORT_COUNT
order_length = length-map code_table (λ (row : CodeRow). row.code) ∙ table_length

pub lines_length : length code_lines ≡ REPORT_COUNT
lines_length = length-map report_order list_line ∙ order_length

pub line_at : (k : ℕ) → k < REPORT_COUNT → slice_index_or code_lines k [] ≡ list_line (code_at k)
line_at k h =
    get_or-map list_line report_order k no_row.code [] (rw order_length h)
    ∙ ap list_line (get_or-map (λ (row : CodeRow). row.code) code_table k no_row no_row.code (rw table_length h))
