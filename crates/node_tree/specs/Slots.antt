-- The places of a tree in one row: the nodes, and then the ssectors (ours).
use Rattle.std.specs.Prelude.{ℕ, ◌+◌, Option}
use Rattle.std.specs.Option.{option_map}
use Rattle.map_geo.specs.declared.sides.Side.{Side}
use Rattle.node_tree.specs.Shape.{Shape}
use Rattle.map_tree.specs.Paths.{Place, node, ssector}
use Rattle.node_tree.specs.Shape.{node_count, ssector_count, child, where_there, root}

abbrev pub slot : Shape → Place → ℕ
slot shape (node n) = n
slot shape (ssector t) = node_count shape + t

abbrev pub slot_count : Shape → ℕ
slot_count shape = node_count shape + ssector_count shape

-- the slot of a node's child, where that is there
abbrev pub child_slot : Shape → ℕ → Side → Option ℕ
child_slot shape n s = option_map (slot shape) (child shape n s)

-- the slot of the root, where that is there
abbrev pub root_slot : Shape → Option ℕ
root_slot shape = option_map (slot shape) (where_there shape (root shape))
