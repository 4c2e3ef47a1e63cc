-- The tests that a census makes, and the most pieces that it has pending at once (ours).
use Rattle.std.specs.Prelude.{◌≡◌, ℕ, suc, ◌+◌, max, ℤ, Option, Some}
use Rattle.std.specs.Option.{option_map}
use Rattle.std.specs.List.{slice_get}
use Rattle.map_geo.specs.declared.sides.Side.{Side}
use Rattle.map_geo.specs.Point.{point_at}
use Rattle.map_geo.specs.Partition.{Partition, partition_of}
use Rattle.map_geo.specs.Side.{side_of, other}
use Rattle.map_geo.specs.Rect.{Rect, IsWholeSide}
use Rattle.map_level.specs.Level.{Level}
use Rattle.map_tree.specs.Paths.{Place, node, ssector}
use Rattle.map_tree.specs.Child.{child}
use Rattle.map_tree.specs.Cuts.{IsCut, IsMiddleRow, IsLast, Halvings, rows_to, rows_above, columns_to, columns_right}

-- the partition of node n
abbrev pub partition_at : Level → ℕ → Option Partition
partition_at level n = option_map partition_of (slice_get level.nodes.records n)

-- a piece, a rectangle that has come to a place, takes w tests and is p deep: at an ssector; at a node that has it whole on
-- one side; at a node that cuts it into its lower and upper rows, or a row into two where its side changes
pub data Work (level : Level) : Rect → Place → ℕ → ℕ → Type 0 where
  at_ssector : (rect : Rect) (t : ℕ) → Work level rect (ssector t) 0 1
  to_child : (rect : Rect) (n : ℕ) (line : Partition) (s : Side) (next : Place) (w p : ℕ)
      → partition_at level n ≡ Some line → IsWholeSide rect line s → child level n s ≡ Some next
      → Work level rect next w p → Work level rect (node n) (suc w) p
  by_rows : (rect : Rect) (n : ℕ) (line : Partition) (y : ℤ) (w1 p1 w2 p2 : ℕ)
      → partition_at level n ≡ Some line → IsCut rect line → IsMiddleRow rect y
      → Work level (rows_to rect y) (node n) w1 p1 → Work level (rows_above rect y) (node n) w2 p2
      → Work level rect (node n) (w1 + w2 + 1) (max (p2 + 1) p1)
  in_row : (rect : Rect) (n : ℕ) (line : Partition) (s : Side) (c : ℤ) (near far : Place) (h w1 p1 w2 p2 : ℕ)
      → partition_at level n ≡ Some line → IsCut rect line → rect.y0 ≡ rect.y1
      → side_of line (point_at rect.x0 rect.y0) ≡ s → IsLast line rect.y0 s rect.x0 rect.x1 c → Halvings line rect.y0 s rect.x0 rect.x1 h
      → child level n s ≡ Some near → child level n (other s) ≡ Some far
      → Work level (columns_to rect c) near w1 p1 → Work level (columns_right rect c) far w2 p2
      → Work level rect (node n) (w1 + w2 + 1 + (1 + h)) (max (p2 + 1) p1)
