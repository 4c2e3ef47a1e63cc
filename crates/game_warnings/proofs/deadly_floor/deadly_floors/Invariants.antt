use Rattle.std.proofs.Common.{◌≡◌}
use Rattle.game_warnings.specs.Warnings.{TellsBelow}
use Rattle.game_warnings.specs.Holds.{HoldsOf}
use Rattle.game_warnings.specs.declared.code.GameCode.TheVariants.{W18}
use Rattle.game_warnings.proofs.deadly_floor.deadly_floors.Given as goal

abbrev pub invariant-loop-s : goal.invariant-loop-s
invariant-loop-s g l = record {
  below : TellsBelow (HoldsOf l.level W18) l.s l.told;
  most : l.told.most ≡ l.most;
}
