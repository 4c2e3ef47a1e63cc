-- W2: parts of walls that can be seen and have no texture (R_StoreWallRange of r_segs.c).
use Rattle.std.specs.Prelude.{◌≡◌, ℕ, ◌<ℤ◌, List, codes, Option, IsNone, IsSomeAnd}
use Rattle.std.specs.List.{slice_get}
use Rattle.le_rec.specs.Name.{name_of}
use Rattle.le_rec.specs.declared.records.LineDef.{LineDef}
use Rattle.le_rec.specs.declared.records.SideDef.{SideDef}
use Rattle.le_rec.specs.declared.records.Sector.{Sector}
use Rattle.map_level.specs.Level.{Level}
use Rattle.map_level.specs.Links.{linedefs_of, sectors_of, named}
use Rattle.map_level.specs.SectorOf.{sidedef_named}
use Rattle.map_level.specs.Reading.{sidedef_under}
use Rattle.map_warnings.specs.declared.bare.Wall.{Wall}
use Rattle.map_warnings.specs.declared.warning.Side.{Side}
use Rattle.map_warnings.specs.declared.warning.Side.TheVariants.{Front, Back}
use Rattle.map_warnings.specs.declared.warning.SidePart.{SidePart}
use Rattle.map_warnings.specs.declared.warning.SidePart.TheVariants.{Middle, Upper, Lower}

-- a texture's eight bytes say that there is none: up to the first NUL they are `-` (R_CheckTextureNumForName of r_data.c)
abbrev pub IsNoTexture : List ℕ → Type 0
IsNoTexture bytes = name_of bytes ≡ codes "-"

-- a flat's eight bytes are the sky's, which is drawn without walls (SKYFLATNAME of r_sky.h)
abbrev pub IsSky : List ℕ → Type 0
IsSky bytes = name_of bytes ≡ codes "F_SKY1"

-- a sector's ceiling is higher than another's, and they don't both show the sky
abbrev pub ShowsUpper : Sector → Sector → Type 0
ShowsUpper here there =
    (there.ceiling <ℤ here.ceiling) × (¬ (IsSky here.ceiling_name × IsSky there.ceiling_name))

-- a sector's floor is lower than another's
abbrev pub ShowsLower : Sector → Sector → Type 0
ShowsLower here there = here.floor <ℤ there.floor

-- the sectors of a sidedef and of the one behind it are there and in a relation
abbrev pub BetweenSectors : Level → (Sector → Sector → Type 0) → SideDef → SideDef → Type 0
BetweenSectors level shows this other =
    IsSomeAnd (named (sectors_of level) this.sector)
    (λ here. IsSomeAnd (named (sectors_of level) other.sector) (λ there. shows here there))

-- a wall has the sector that its sidedef names
abbrev pub HasSector : Level → Wall → Type 0
HasSector level wall = wall.sector ≡ named (sectors_of level) (sidedef_under level.reading wall.sidedef).sector

-- the sidedef of a linedef's side
abbrev pub sidedef_at_side : Level → LineDef → Side → Option SideDef
sidedef_at_side level linedef Front = sidedef_named level linedef.side0
sidedef_at_side level linedef Back = sidedef_named level linedef.side1

abbrev pub behind : Side → Side
behind Front = Back
behind Back = Front

-- a part of this sidedef can be seen, with what stands behind it, and has no texture
abbrev pub IsBarePart : Level → Side → SideDef → Option SideDef → SidePart → Type 0
IsBarePart level Front this other Middle = IsNone other × IsNoTexture this.middle
IsBarePart level Back this other Middle = ⊥
IsBarePart level side this other Upper =
    IsNoTexture this.top × IsSomeAnd other (λ back. BetweenSectors level ShowsUpper this back)
IsBarePart level side this other Lower =
    IsNoTexture this.bottom × IsSomeAnd other (λ back. BetweenSectors level ShowsLower this back)

-- a part of this linedef's side can be seen and has no texture
abbrev pub IsBareOf : Level → LineDef → Side → SidePart → Type 0
IsBareOf level linedef side part =
    IsSomeAnd (sidedef_at_side level linedef side)
    (λ this. IsBarePart level side this (sidedef_at_side level linedef (behind side)) part)

-- a part of a linedef's side can be seen and has no texture: the middle in front where there is no side behind, the upper where
-- the ceiling behind is lower, the lower where the floor behind is higher
abbrev pub IsBare : Level → ℕ → Side → SidePart → Type 0
IsBare level i side part =
    IsSomeAnd (slice_get (linedefs_of level) i)
    (λ linedef. IsSomeAnd (sidedef_at_side level linedef side)
    (λ this. IsBarePart level side this (sidedef_at_side level linedef (behind side)) part))
