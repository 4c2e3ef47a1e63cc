-- A level's own nodes and the same written wider, as extended nodes have them (FProcessor::WriteNodesX of zdbsp).
use Rattle.std.specs.Prelude.{◌≡◌, ℕ, ◌-◌, nat_lt, if◌then◌else◌, length, map}
use Rattle.le_rec.specs.declared.records.Node as record_node
use Rattle.map_level.specs.Level.{Level}
use Rattle.map_tree.specs.Child.{ssector_count}
use Rattle.node_lumps.specs.Later.{Later}
use Rattle.node_lumps.specs.declared.records.LaterNode.{LaterNode}
use Rattle.node_lumps.specs.declared.records.NodeChild.{NodeChild}
use Rattle.node_lumps.specs.declared.records.NodeChild.TheVariants.{Node, Ssector}

-- a child word of 16 bits: below 32768 it names a node
abbrev pub wider_child : ℕ → NodeChild
wider_child word = if nat_lt word 32768 then Node word else Ssector (word - 32768)

abbrev pub wider_node : record_node.Node → LaterNode
wider_node found = record {
  x = found.x;
  y = found.y;
  dx = found.dx;
  dy = found.dy;
  front = wider_child found.child0;
  back = wider_child found.child1;
}

-- later nodes are the level's own, and there are as many ssectors
pub record AreWider (level : Level) (later : Later) : Type 0 where
  pub nodes : later.nodes ≡ map wider_node level.nodes.records
  pub ssectors : length later.ssectors ≡ ssector_count level
