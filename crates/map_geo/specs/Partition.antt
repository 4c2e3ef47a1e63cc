-- Partitions (node_t of r_defs.h).
use Rattle.std.specs.Prelude.{ℤ, ◌≤◌, unsigned_abs}
use Rattle.le_rec.specs.declared.records.Node.{Node}

-- a partition: the line through (x, y) in the direction (dx, dy)
pub record Partition : Type 0 where
  pub x : ℤ
  pub y : ℤ
  pub dx : ℤ
  pub dy : ℤ

-- a component of a direction, as a signed number of two bytes holds it: 32768 at most in size
abbrev pub IsStep : ℤ → Type 0
IsStep z = unsigned_abs z ≤ 32768

-- the partition of a node (node_t of r_defs.h)
abbrev pub partition_of : Node → Partition
partition_of node = record { x = node.x; y = node.y; dx = node.dx; dy = node.dy }
