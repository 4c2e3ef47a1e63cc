use Rattle.std.proofs.Common.{◌≡◌}
use Rattle.map_warnings.specs.Warnings.{TellsBelow}
use Rattle.map_warnings.specs.Holds.{HoldsOf}
use Rattle.level_codes.specs.declared.code.WarningCode.TheVariants.{W5}
use Rattle.map_warnings.proofs.facing.tell_mismatched.Given as goal

abbrev pub invariant-loop-t : goal.invariant-loop-t
invariant-loop-t g l = record {
  below : TellsBelow (HoldsOf l.level W5) l.t l.told;
  most : l.told.most ≡ l.most;
}
