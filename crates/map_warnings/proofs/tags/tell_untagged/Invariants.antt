use Rattle.std.proofs.Common.{◌≡◌}
use Rattle.map_warnings.specs.Warnings.{TellsBelow}
use Rattle.map_warnings.specs.Holds.{HoldsOf}
use Rattle.level_codes.specs.declared.code.WarningCode.TheVariants.{W4}
use Rattle.map_warnings.proofs.tags.tell_untagged.Given as goal

abbrev pub invariant-loop-i : goal.invariant-loop-i
invariant-loop-i g l = record {
  below : TellsBelow (HoldsOf l.level W4) l.i l.told;
  most : l.told.most ≡ l.most;
}
