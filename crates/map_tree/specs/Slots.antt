-- The places of a level in one row: the nodes, and then the ssectors (ours).
use Rattle.std.specs.Prelude.{ℕ, ◌+◌, Option}
use Rattle.std.specs.Option.{option_map}
use Rattle.map_geo.specs.declared.sides.Side.{Side}
use Rattle.map_level.specs.Level.{Level}
use Rattle.map_tree.specs.Paths.{Place, node, ssector}
use Rattle.map_tree.specs.Child.{node_count, ssector_count, child, where_there, root}

abbrev pub slot : Level → Place → ℕ
slot level (node n) = n
slot level (ssector t) = node_count level + t

abbrev pub slot_count : Level → ℕ
slot_count level = node_count level + ssector_count level

-- the slot of a node's child, where that is there
abbrev pub child_slot : Level → ℕ → Side → Option ℕ
child_slot level n s = option_map (slot level) (child level n s)

-- the slot of the root, where that is there
abbrev pub root_slot : Level → Option ℕ
root_slot level = option_map (slot level) (where_there level (root level))
