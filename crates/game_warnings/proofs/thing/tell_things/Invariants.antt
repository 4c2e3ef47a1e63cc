use Rattle.std.proofs.Common.{◌*◌, ◌≡◌}
use Rattle.game_warnings.specs.Warnings.{TellsBelow}
use Rattle.game_warnings.specs.Holds.{HoldsOf}
use Rattle.game_warnings.specs.declared.code.GameCode.TheVariants.{W21}
use Rattle.game_warnings.proofs.thing.tell_things.Given as goal

abbrev pub invariant-loop-k : goal.invariant-loop-k
invariant-loop-k g l = record {
  below : TellsBelow (HoldsOf l.level W21) (l.k * 4) l.told;
  most : l.told.most ≡ l.most;
}
