-- W9: textures of sidedefs that no lump lists (R_TextureNumForName of r_data.c).
use Rattle.std.specs.Prelude.{◌≢◌, ℕ, List, IsSomeAnd, slice_index}
use Rattle.std.specs.List.{slice_get}
use Rattle.le_rec.specs.Name.{query_of}
use Rattle.le_rec.specs.declared.records.SideDef.{SideDef}
use Rattle.map_level.specs.Level.{Level}
use Rattle.map_level.specs.Links.{sidedefs_of}
use Rattle.wad_dir.specs.Wad.{Wad}
use Rattle.map_warnings.specs.Listed.{IsTexture}
use Rattle.map_warnings.specs.declared.warning.SidePart.{SidePart}
use Rattle.map_warnings.specs.declared.warning.SidePart.TheVariants.{Middle, Upper, Lower}

-- the eight bytes of a part's texture
abbrev pub texture_of : SidePart → SideDef → List ℕ
texture_of Upper sidedef = sidedef.top
texture_of Lower sidedef = sidedef.bottom
texture_of Middle sidedef = sidedef.middle

-- eight bytes don't begin with `-`, and no texture of the set has their name
pub record NamesNoTexture (files : List Wad) (bytes : List ℕ) : Type 0 where
  pub wanted : slice_index bytes 0 ≢ 45
  pub none : ¬ IsTexture files (query_of bytes)

-- the texture at a part of sidedef i is none of the set's
abbrev pub IsUnknownTexture : List Wad → Level → ℕ → SidePart → Type 0
IsUnknownTexture files level i part =
    IsSomeAnd (slice_get (sidedefs_of level) i) (λ sidedef. NamesNoTexture files (texture_of part sidedef))
