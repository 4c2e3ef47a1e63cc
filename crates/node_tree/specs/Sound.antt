-- Sound trees (ours): the nodes are a tree over all nodes and ssectors.
use Rattle.std.specs.Prelude.{◌≡◌, ◌≢◌, ℕ, ◌<◌, IsTrue, Some, IsSome, IsSomeAnd}
use Rattle.map_geo.specs.declared.sides.Side.{Side}
use Rattle.map_geo.specs.Point.{IsInRange}
use Rattle.map_level.specs.Findings.{NoFaultHolds}
use Rattle.map_tree.specs.Paths.{Place}
use Rattle.node_tree.specs.Shape.{Shape, node_count, ssector_count, has, child, root, IsReached}
use Rattle.node_tree.specs.TreeFaults.{TreeHolds}

-- exactly one child word names the place
pub record IsNamedOnce (shape : Shape) (place : Place) : Type 0 where
  pub parent : ℕ
  pub side : Side
  pub names : child shape parent side ≡ Some place
  pub only : (n : ℕ) (s : Side) → child shape n s ≡ Some place → (n ≡ parent) × (s ≡ side)

-- the nodes are a tree over all nodes and ssectors, and each origin is in range
pub record IsTree (shape : Shape) : Type 0 where
  pub words : (n : ℕ) (s : Side) → n < node_count shape → IsSome (child shape n s)
  pub origins : (n : ℕ) → n < node_count shape
      → IsSomeAnd (shape.partition n) (λ line. IsInRange line.x × IsInRange line.y)
  pub named : (place : Place) → IsTrue (has shape place) → place ≢ root shape
      → IsNamedOnce shape place
  pub root_unnamed : (n : ℕ) (s : Side) → child shape n s ≢ Some (root shape)
  pub reached : (place : Place) → IsTrue (has shape place) → IsReached shape place

-- a sound tree: its nodes are one; where it has none it has exactly one ssector
pub record IsSound (shape : Shape) : Type 0 where
  pub tree : 0 < node_count shape → IsTree shape
  pub alone : node_count shape ≡ 0 → ssector_count shape ≡ 1

-- no fault holds, F17 among them: there is an ssector
pub record IsFaultless (shape : Shape) : Type 0 where
  pub none : NoFaultHolds (TreeHolds shape)
  pub some : 0 < ssector_count shape
