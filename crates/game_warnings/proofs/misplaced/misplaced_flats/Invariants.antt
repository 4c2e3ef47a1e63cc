use Rattle.std.proofs.Common.{◌*◌, ◌≡◌, Some}
use Rattle.game_warnings.specs.Warnings.{TellsBelow}
use Rattle.game_warnings.specs.Holds.{HoldsIn}
use Rattle.game_warnings.specs.declared.code.GameCode.TheVariants.{W25}
use Rattle.game_warnings.proofs.misplaced.misplaced_flats.Given as goal

abbrev pub invariant-loop-s : goal.invariant-loop-s
invariant-loop-s g l = record {
  below : TellsBelow (HoldsIn (Some l.graphics) l.level W25) (l.s * 2) l.told;
  most : l.told.most ≡ l.most;
}
