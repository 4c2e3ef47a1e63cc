use Rattle.std.proofs.Common.{arith}
use Rattle.level_codes.proofs.RowLemmas.{view_at, view_length}
use Rattle.level_codes.proofs.table.row_at.Goals as goal

pub bounds-rows-rank : goal.bounds-rows-rank
bounds-rows-rank c = omega (arith, view_length c.rows-rows.result.now c.rows-rows.ensures)

pub returns : goal.returns
returns c = view_at c.rows-rows.result.now c.args.rank _ c.rows-rows.ensures c.requires
