use Rattle.std.proofs.Common.{◌≡◌, take}
use Rattle.atlas_page.specs.Rows.{totals_of_rows}
use Rattle.atlas_page.proofs.page.totals_of.Given as goal

-- what the rows so far add up to
abbrev pub invariant-loop-row : goal.invariant-loop-row
invariant-loop-row l = l.sum ≡ totals_of_rows (take l.row-index l.rows)
