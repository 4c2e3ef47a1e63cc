use Rattle.std.proofs.Common.{◌*◌, ◌≡◌}
use Rattle.map_warnings.specs.Warnings.{TellsBelow}
use Rattle.map_warnings.specs.Holds.{HoldsOf}
use Rattle.level_codes.specs.declared.code.WarningCode.TheVariants.{W2}
use Rattle.map_warnings.proofs.bare.bare_walls.Given as goal

abbrev pub invariant-loop-i : goal.invariant-loop-i
invariant-loop-i g l = record {
  below : TellsBelow (HoldsOf l.level W2) (l.i * 6) l.told;
  most : l.told.most ≡ l.most;
}
