use Rattle.std.proofs.Common.{◌*◌, ◌≡◌}
use Rattle.game_warnings.specs.Warnings.{TellsBelow}
use Rattle.game_warnings.specs.Holds.{HoldsOf}
use Rattle.game_warnings.specs.declared.code.GameCode.TheVariants.{W17}
use Rattle.game_warnings.proofs.effect.tell_effects.Given as goal

abbrev pub invariant-loop-i : goal.invariant-loop-i
invariant-loop-i g l = record {
  below : TellsBelow (HoldsOf l.level W17) (l.i * 6) l.told;
  most : l.told.most ≡ l.most;
}
