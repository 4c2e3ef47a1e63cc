use Rattle.std.proofs.Common.{Some, arith}
use Rattle.game_warnings.specs.Graphics.{IsLacking}
use Rattle.game_warnings.specs.Holds.{HoldsIn}
use Rattle.game_warnings.specs.declared.code.GameCode.TheVariants.{W22}
use Rattle.game_warnings.proofs.RankLemmas.{patch_alone, patch_none}
use Rattle.game_warnings.proofs.ToldLemmas.{told_past}
use Rattle.game_warnings.proofs.limit.tell_patch.Goals as goal

pub tell_among-requires-clause-alone : goal.tell_among-requires-clause-alone
tell_among-requires-clause-alone g c =
    patch_alone c.args.graphics.now c.args.level.now c.in-Some.texture (rw c.in-Some.is at c.lacking.ensures)
