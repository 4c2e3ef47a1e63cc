use Rattle.std.proofs.Common.{◌≡◌, false, take}
use Rattle.atlas_page.specs.Legend.{is_found}
use Rattle.atlas_page.proofs.legend.is_found.Given as goal

-- no row so far has it
abbrev pub invariant-loop-row : goal.invariant-loop-row
invariant-loop-row l = is_found (take l.row-index l.rows) l.code ≡ false
