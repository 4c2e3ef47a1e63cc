-- W17: sectors that look for a neighbour to change after, and find none (lowerAndChange in EV_DoFloor of p_floor.c).
use Rattle.std.specs.Prelude.{◌≡◌, ℕ, ◌+◌, ℤ, Bool, Option, Some, None, fold, nat_lt, if◌then◌else◌}
use Rattle.std.specs.Ordering.{int_eq}
use Rattle.map_level.specs.Level.{Level}
use Rattle.game_warnings.specs.Neighbours.{line_count, lowest_floor}
use Rattle.game_warnings.specs.Sides.{across, floor_at, is_of, sides_in}
use Rattle.game_warnings.specs.declared.search.Search.{Search}
use Rattle.game_warnings.specs.declared.search.Search.TheVariants.{Going, Found, Lost}
use Rattle.game_warnings.specs.declared.sides.Sides.{Sides}

-- the search at linedef k of sector s with flag 4: at a neighbour of the wanted height it ends; at another one it goes on, and then by how many linedefs this one has,
-- not sector s
abbrev pub look_across : Level → ℕ → ℕ → Option ℕ → Search
look_across level s k (Some other) = if int_eq (floor_at level other) (lowest_floor level s) then Found else Going (k + 1) (line_count level other)
look_across level s k None = Lost

-- the search at linedef k of sector s, while k is below how many linedefs it goes by
abbrev pub look_at : Level → ℕ → ℕ → ℕ → Sides → Search
look_at level s k count sides =
    if nat_lt k count
    then (if sides.is_two_sided then look_across level s k (across s sides) else Going (k + 1) count)
    else Lost

abbrev pub look_on : Level → ℕ → Search → Sides → Search
look_on level s (Going k count) sides = look_at level s k count sides
look_on level s Found sides = Found
look_on level s Lost sides = Lost

-- the search at any linedef: at one of another sector nothing happens
abbrev pub look : Level → ℕ → Search → Sides → Search
look level s search sides = if is_of s sides then look_on level s search sides else search

-- where it begins, and where it ends
abbrev pub begun : Level → ℕ → Search
begun level s = Going 0 (line_count level s)

abbrev pub ended : Level → ℕ → Search
ended level s = fold (look level s) (begun level s) (sides_in level)

-- sector s finds no neighbour at the height to which it is lowered
abbrev pub FindsNone : Level → ℕ → Type 0
FindsNone level s = ¬ (ended level s ≡ Found)
