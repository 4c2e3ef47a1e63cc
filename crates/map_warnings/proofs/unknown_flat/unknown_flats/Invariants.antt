use Rattle.std.proofs.Common.{◌*◌, ◌≡◌, Some}
use Rattle.map_warnings.specs.Warnings.{TellsBelow}
use Rattle.map_warnings.specs.Holds.{HoldsIn}
use Rattle.level_codes.specs.declared.code.WarningCode.TheVariants.{W10}
use Rattle.map_warnings.proofs.unknown_flat.unknown_flats.Given as goal

abbrev pub invariant-loop-i : goal.invariant-loop-i
invariant-loop-i g l = record {
  below : TellsBelow (HoldsIn (Some l.resources) l.level W10) (l.i * 2) l.told;
  most : l.told.most ≡ l.most;
}
