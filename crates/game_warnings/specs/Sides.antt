-- The sectors on both sides of a linedef, and the one across it (P_GroupLines of p_setup.c and getNextSector of p_spec.c).
use Rattle.std.specs.Prelude.{◌==◌, ◌||◌, ℕ, ℤ, pos, Bool, false, List, Option, Some, None, length, map, not, if◌then◌else◌, IsSomeAnd, IsTrue}
use Rattle.std.specs.Int.{int_bit_and, w16}
use Rattle.std.specs.List.{slice_get}
use Rattle.std.specs.Option.{option_and_then, option_map_or}
use Rattle.std.specs.Ordering.{int_eq}
use Rattle.le_rec.specs.declared.records.LineDef.{LineDef}
use Rattle.map_level.specs.Level.{Level}
use Rattle.map_level.specs.Links.{linedefs_of, sectors_of, ◌>>=◌}
use Rattle.map_level.specs.SectorOf.{number_named, sidedef_named}
use Rattle.game_warnings.specs.declared.sides.Sides.{Sides}

-- the sector of the sidedef that an index names
abbrev pub sector_at : Level → ℤ → Option ℕ
sector_at level side = do
  sidedef ← sidedef_named level side
  number_named (length (sectors_of level)) sidedef.sector

-- a linedef's flag 4 says that it has two sides (ML_TWOSIDED of doomdata.h)
abbrev pub has_two_sides : LineDef → Bool
has_two_sides linedef = not (int_eq (int_bit_and w16 linedef.flags (pos 4)) (pos 0))

-- a linedef's sectors, in front and at the back, and whether the flag says that it has two
abbrev pub sides_of : Level → LineDef → Sides
sides_of level linedef = record {
  front = sector_at level linedef.side0;
  back = sector_at level linedef.side1;
  is_two_sided = has_two_sides linedef;
}

-- those of all linedefs
abbrev pub sides_in : Level → List Sides
sides_in level = map (sides_of level) (linedefs_of level)

-- a sector is there, and is sector s
abbrev pub is_sector : Option ℕ → ℕ → Bool
is_sector (Some n) s = n == s
is_sector None s = false

-- a linedef is one of sector s
abbrev pub is_of : ℕ → Sides → Bool
is_of s sides = is_sector sides.front s || is_sector sides.back s

-- the sector across a linedef from sector s, where it is there
abbrev pub across : ℕ → Sides → Option ℕ
across s sides = if is_sector sides.front s then sides.back else sides.front

-- the height of a sector's floor at the start
abbrev pub floor_at : Level → ℕ → ℤ
floor_at level s = option_map_or (λ sector. sector.floor) (slice_get (sectors_of level) s) (pos 0)

-- linedef k is one of sector s
abbrev pub IsLineAt : Level → ℕ → ℕ → Type 0
IsLineAt level s k = IsSomeAnd (slice_get (sides_in level) k) (λ sides. IsTrue (is_of s sides))

-- the sector at the back, where it isn't the one in front
abbrev pub back_alone : Sides → Option ℕ
back_alone sides = option_and_then (λ back. if is_sector sides.front back then None else Some back) sides.back
