use Rattle.std.proofs.Common.{◌*◌, ◌≡◌, Some}
use Rattle.map_warnings.specs.Warnings.{TellsBelow}
use Rattle.map_warnings.specs.Holds.{HoldsIn}
use Rattle.level_codes.specs.declared.code.WarningCode.TheVariants.{W9}
use Rattle.map_warnings.proofs.unknown_texture.unknown_textures.Given as goal

abbrev pub invariant-loop-i : goal.invariant-loop-i
invariant-loop-i g l = record {
  below : TellsBelow (HoldsIn (Some l.resources) l.level W9) (l.i * 3) l.told;
  most : l.told.most ≡ l.most;
}
