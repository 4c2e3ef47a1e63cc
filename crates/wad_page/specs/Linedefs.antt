-- Where the linedefs of a level lie and which sectors they face, as numbers of 32 bits for a host (ours).
use Rattle.std.specs.Prelude.{◌≡◌, ℕ, ◌<◌, ℤ, pos, negsuc, List, [], ◌∷◌, ◌++◌, length, Option, Some, None}
use Rattle.std.specs.List.{flat_map, range_with_len, slice_get}
use Rattle.le_rec.specs.Number.{signed_bytes32}
use Rattle.le_rec.specs.declared.records.SideDef.{SideDef}
use Rattle.map_cells.specs.Ends.{linedef_ends}
use Rattle.map_cells.specs.declared.ends.Ends.{Ends}
use Rattle.map_level.specs.Level.{Level}
use Rattle.map_level.specs.Links.{linedefs_of, sectors_of, side_at, ◌>>=◌}
use Rattle.map_level.specs.Opening.{IsLevelAt, RefusesLevelAt}
use Rattle.map_level.specs.SectorOf.{number_named, sidedef_named}
use Rattle.map_level.specs.declared.reading.Reading.{Reading}
use Rattle.wad_dir.specs.Entries.{joined}
use Rattle.wad_dir.specs.Refusal.{RefusesWad}
use Rattle.wad_dir.specs.Wad.{Wad}
use Rattle.wad_page.specs.Draw.{IsFileOf}
use Rattle.wad_page.specs.declared.linedefs.ListFault.{ListFault}
use Rattle.wad_page.specs.declared.linedefs.ListFault.TheVariants.{NoWad, NoEntry, NoLevel, Memory}

-- what stands for a number that isn't there: the least of 32 bits
abbrev pub not_there : ℤ
not_there = negsuc 2147483647

-- the index that a linedef has at a side, 0 in front and 1 at the back
abbrev pub side_index : Level → ℕ → ℤ → Option ℤ
side_index level i side = do
  linedef ← slice_get (linedefs_of level) i
  side_at linedef side

-- the sidedef there
abbrev pub faced_sidedef : Level → ℕ → ℤ → Option SideDef
faced_sidedef level i side = do
  index ← side_index level i side
  sidedef_named level index

-- the sector that a linedef faces at a side, where each link on the way names something
abbrev pub faced_sector : Level → ℕ → ℤ → Option ℕ
faced_sector level i side = do
  sidedef ← faced_sidedef level i side
  number_named (length (sectors_of level)) sidedef.sector

abbrev pub sector_number : Option ℕ → ℤ
sector_number (Some sector) = pos sector
sector_number None = not_there

-- x y x y of a linedef's vertexes, where both are there
abbrev pub place_numbers : Option Ends → List ℤ
place_numbers (Some ends) = ends.from.x ∷ ends.from.y ∷ ends.to.x ∷ ends.to.y ∷ []
place_numbers None = not_there ∷ not_there ∷ not_there ∷ not_there ∷ []

-- the six numbers of a linedef: x y x y of its vertexes, and the sectors in front and at the back
abbrev pub linedef_numbers : Level → ℕ → List ℤ
linedef_numbers level i =
    place_numbers (linedef_ends level i) ++ (sector_number (faced_sector level i (pos 0)) ∷ sector_number (faced_sector level i (pos 1)) ∷ [])

-- each number as four bytes, the lowest first
abbrev pub linedef_bytes : Level → ℕ → List ℕ
linedef_bytes level i = flat_map signed_bytes32 (linedef_numbers level i)

-- the bytes of all linedefs, in order
abbrev pub linedefs_bytes : Level → List ℕ
linedefs_bytes level = flat_map (linedef_bytes level) (range_with_len 0 (length level.linedefs.records))

-- the list of the linedefs of the level whose label is the first entry
pub record ListsLevel (files : List Wad) (reading : Reading) (list : List ℕ) : Type 0 where
  pub level : Level
  pub there : IsLevelAt files 0 reading level
  pub is : list ≡ linedefs_bytes level

-- the list of the linedefs of the first level of the file of these bytes
pub record ListsFirst (bytes : List ℕ) (reading : Reading) (list : List ℕ) : Type 0 where
  pub files : List Wad
  pub file : IsFileOf bytes files
  pub lists : ListsLevel files reading list

-- why the linedefs of no level of some files are listed
abbrev pub RefusesListing : List Wad → ListFault → Type 0
RefusesListing files (NoWad why) = ⊥
RefusesListing files NoEntry = length (joined files) ≡ 0
RefusesListing files (NoLevel why) = (0 < length (joined files)) × RefusesLevelAt files 0 why
RefusesListing files Memory = Unit {0}

pub record RefusesListingIn (bytes : List ℕ) (fault : ListFault) : Type 0 where
  pub files : List Wad
  pub file : IsFileOf bytes files
  pub refuses : RefusesListing files fault

-- why those of the first level of the file of these bytes aren't
abbrev pub RefusesList : List ℕ → ListFault → Type 0
RefusesList bytes (NoWad why) = RefusesWad bytes why
RefusesList bytes Memory = Unit {0}
RefusesList bytes fault = RefusesListingIn bytes fault
