-- What the child words of a level's nodes name, and where a descent begins (R_PointInSubsector of r_main.c).
use Rattle.std.specs.Prelude.{ℕ, zero, suc, ◌-◌, Bool, nat_lt, if◌then◌else◌, length, Option, Some, None, option_and_then}
use Rattle.std.specs.Option.{option_map}
use Rattle.std.specs.List.{slice_get}
use Rattle.le_rec.specs.declared.records.Node.{Node}
use Rattle.map_geo.specs.declared.sides.Side.{Side}
use Rattle.map_geo.specs.declared.sides.Side.TheVariants.{Front, Back}
use Rattle.map_geo.specs.Point.{Point}
use Rattle.map_geo.specs.Partition.{partition_of}
use Rattle.map_geo.specs.Side.{side_of}
use Rattle.map_level.specs.Level.{Level}
use Rattle.map_tree.specs.Paths.{Place, node, ssector, Leads}

-- how many nodes and ssectors a level has
abbrev pub node_count : Level → ℕ
node_count level = length level.nodes.records

abbrev pub ssector_count : Level → ℕ
ssector_count level = length level.ssectors.records

-- a word below 32768 is a node's number, another is 32768 above an ssector's
-- (NF_SUBSECTOR of doomdata.h)
abbrev pub place_of : ℕ → Place
place_of word = if nat_lt word 32768 then node word else ssector (word - 32768)

-- a node's child word at a side
abbrev pub word_at : Node → Side → ℕ
word_at found Front = found.child0
word_at found Back = found.child1

-- the level has the place
abbrev pub has : Level → Place → Bool
has level (node n) = nat_lt n (node_count level)
has level (ssector t) = nat_lt t (ssector_count level)

abbrev pub where_there : Level → Place → Option Place
where_there level place = if has level place then Some place else None

-- what the child word of node n at a side names; nothing where that isn't there
abbrev pub child : Level → ℕ → Side → Option Place
child level n s =
    option_and_then (λ found. where_there level (place_of (word_at found s)))
    (slice_get level.nodes.records n)

-- the last of so many nodes, or ssector 0 where there are none
abbrev pub root_of : ℕ → Place
root_of zero = ssector 0
root_of (suc n) = node n

abbrev pub root : Level → Place
root level = root_of (node_count level)

-- the root leads to the place
abbrev pub IsReached : Level → Place → Type 0
IsReached level place = Leads (child level) (root level) place

-- the side on which a point lies at node n
abbrev pub side_at : Level → ℕ → Point → Option Side
side_at level n point =
    option_map (λ found. side_of (partition_of found) point) (slice_get level.nodes.records n)
