-- W25: flats that don't stand between the ends of the flats (R_InitFlats and R_FlatNumForName of r_data.c).
use Rattle.std.specs.Prelude.{◌≡◌, ℕ, ◌<◌, List, Option, Some, None, codes, IsSomeAnd}
use Rattle.std.specs.List.{slice_get}
use Rattle.le_rec.specs.Name.{query_of}
use Rattle.le_rec.specs.declared.records.Sector.{Sector}
use Rattle.map_level.specs.Level.{Level}
use Rattle.map_level.specs.Links.{sectors_of}
use Rattle.wad_dir.specs.Entries.{names}
use Rattle.wad_dir.specs.Wad.{Wad}
use Rattle.wad_dir.specs.Winner.{Wins}
use Rattle.game_warnings.specs.declared.warning.Surface.{Surface}
use Rattle.game_warnings.specs.declared.warning.Surface.TheVariants.{Floor, Ceiling}

-- the eight bytes of a surface's flat
abbrev pub flat_of : Surface → Sector → List ℕ
flat_of Floor sector = sector.floor_name
flat_of Ceiling sector = sector.ceiling_name

-- the entries that win the names of both ends
pub record HaveFlatEnds (files : List Wad) (start end : ℕ) : Type 0 where
  pub starts : Wins (names files) (codes "F_START") start
  pub ends : Wins (names files) (codes "F_END") end

abbrev pub HasFlatEnds : List Wad → Type 0
HasFlatEnds files = (start : ℕ) × (end : ℕ) × HaveFlatEnds files start end

-- an entry wins a name, and doesn't stand between the ends
pub record IsOutside (files : List Wad) (name : List ℕ) : Type 0 where
  pub start : ℕ
  pub end : ℕ
  pub ends : HaveFlatEnds files start end
  pub g : ℕ
  pub wins : Wins (names files) name g
  pub out : ¬ ((start < g) × (g < end))

-- so does the flat of sector i's floor or ceiling
abbrev pub IsMisplaced : List Wad → Level → ℕ → Surface → Type 0
IsMisplaced files level i surface = IsSomeAnd (slice_get (sectors_of level) i) (λ sector. IsOutside files (query_of (flat_of surface sector)))
