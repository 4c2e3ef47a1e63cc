use Rattle.std.proofs.Common.{◌≡◌}
use Rattle.map_warnings.specs.Warnings.{TellsBelow}
use Rattle.map_warnings.specs.EndsKey.{AreFirsts}
use Rattle.map_warnings.specs.Holds.{HoldsOf}
use Rattle.level_codes.specs.declared.code.WarningCode.TheVariants.{W6}
use Rattle.map_warnings.proofs.twins.tell_twins.Given as goal

abbrev pub invariant-loop-i : goal.invariant-loop-i
invariant-loop-i g l = record {
  below : TellsBelow (HoldsOf l.level W6) l.i l.told;
  most : l.told.most ≡ l.most;
  kept : AreFirsts l.level l.i l.firsts;
}
