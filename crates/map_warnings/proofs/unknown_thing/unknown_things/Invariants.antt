use Rattle.std.proofs.Common.{◌≡◌}
use Rattle.map_warnings.specs.Warnings.{TellsBelow}
use Rattle.map_warnings.specs.Holds.{HoldsOf}
use Rattle.level_codes.specs.declared.code.WarningCode.TheVariants.{W11}
use Rattle.map_warnings.proofs.unknown_thing.unknown_things.Given as goal

abbrev pub invariant-loop-k : goal.invariant-loop-k
invariant-loop-k g l = record {
  below : TellsBelow (HoldsOf l.level W11) l.k l.told;
  most : l.told.most ≡ l.most;
}
