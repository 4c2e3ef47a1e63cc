-- W10: flats of sectors that no entry has (R_FlatNumForName of r_data.c).
use Rattle.std.specs.Prelude.{ℕ, List, IsSomeAnd}
use Rattle.std.specs.List.{slice_get}
use Rattle.le_rec.specs.Name.{query_of}
use Rattle.le_rec.specs.declared.records.Sector.{Sector}
use Rattle.map_level.specs.Level.{Level}
use Rattle.map_level.specs.Links.{sectors_of}
use Rattle.wad_dir.specs.Wad.{Wad}
use Rattle.map_warnings.specs.Listed.{HasEntry}
use Rattle.map_warnings.specs.declared.warning.Plane.{Plane}
use Rattle.map_warnings.specs.declared.warning.Plane.TheVariants.{Floor, Ceiling}

-- the eight bytes of a plane's flat
abbrev pub flat_of : Plane → Sector → List ℕ
flat_of Floor sector = sector.floor_name
flat_of Ceiling sector = sector.ceiling_name

-- no entry of the set has the name that is looked up for eight bytes
abbrev pub NamesNoFlat : List Wad → List ℕ → Type 0
NamesNoFlat files bytes = ¬ HasEntry files (query_of bytes)

-- the flat of sector i's floor or ceiling is none of the set's
abbrev pub IsUnknownFlat : List Wad → Level → ℕ → Plane → Type 0
IsUnknownFlat files level i plane =
    IsSomeAnd (slice_get (sectors_of level) i) (λ sector. NamesNoFlat files (flat_of plane sector))
