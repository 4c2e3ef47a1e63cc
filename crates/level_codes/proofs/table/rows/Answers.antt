use Rattle.std.proofs.Common.{refl}
use Rattle.level_codes.specs.Codes.{code_table}
use Rattle.level_codes.proofs.table.rows.Goals as goal

pub returns : goal.returns
unfolding code_table
returns c = refl
