-- What is known of a set's flats and textures (ours).
use Rattle.std.specs.Prelude.{ℕ, List, Option, Some, None}
use Rattle.wad_dir.specs.Wad.{Wad}
use Rattle.game_warnings.specs.Misplaced.{HasFlatEnds, HaveFlatEnds}
use Rattle.game_warnings.specs.Patches.{LacksPatch}
use Rattle.game_warnings.specs.declared.flats.FlatEnds.{FlatEnds}

-- the ends of the flats are known exactly where both are there
abbrev pub AreFlatEnds : List Wad → Option FlatEnds → Type 0
AreFlatEnds files (Some ends) = HaveFlatEnds files ends.start ends.end
AreFlatEnds files None = ¬ HasFlatEnds files

-- the first texture that lacks a patch is known, where one does
abbrev pub IsLacking : List Wad → Option (List ℕ) → Type 0
IsLacking files (Some bytes) = LacksPatch files bytes
IsLacking files None = (bytes : List ℕ) → ¬ LacksPatch files bytes
