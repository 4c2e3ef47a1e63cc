-- W17: what lies around a sector (P_FindNextHighestFloor and P_FindLowestFloorSurrounding of p_spec.c).
use Rattle.std.specs.Prelude.{◌&&◌, ℕ, ℤ, Bool, false, List, Option, Some, None, count_by, fold, int_lt, if◌then◌else◌}
use Rattle.std.specs.Int.{int_min}
use Rattle.std.specs.Option.{option_map_or}
use Rattle.map_level.specs.Level.{Level}
use Rattle.game_warnings.specs.Sides.{across, floor_at, is_of, sides_in}
use Rattle.game_warnings.specs.declared.sides.Sides.{Sides}

-- the sector across is there, and its floor is higher
abbrev pub is_higher : Level → ℕ → Option ℕ → Bool
is_higher level s (Some other) = int_lt (floor_at level s) (floor_at level other)
is_higher level s None = false

-- a linedef leads up from sector s: it is one of the sector's, with flag 4, and the floor across is higher
abbrev pub leads_up : Level → ℕ → Sides → Bool
leads_up level s sides = is_of s sides && (sides.is_two_sided && is_higher level s (across s sides))

-- how many do, and how many linedefs a sector has
abbrev pub higher_count : Level → ℕ → ℕ
higher_count level s = count_by (leads_up level s) (sides_in level)

abbrev pub line_count : Level → ℕ → ℕ
line_count level s = count_by (is_of s) (sides_in level)

-- the lower of a height and the floor across, where that is there
abbrev pub lower_across : Level → ℤ → Option ℕ → ℤ
lower_across level height (Some other) = int_min height (floor_at level other)
lower_across level height None = height

-- the lower of a height and the floor across a linedef of sector s with flag 4
abbrev pub lower_by : Level → ℕ → ℤ → Sides → ℤ
lower_by level s height sides = if is_of s sides && sides.is_two_sided then lower_across level height (across s sides) else height

-- the least floor of sector s and of what is across such linedefs
abbrev pub lowest_floor : Level → ℕ → ℤ
lowest_floor level s = fold (lower_by level s) (floor_at level s) (sides_in level)
