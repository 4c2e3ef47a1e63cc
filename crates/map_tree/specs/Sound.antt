-- Sound levels (ours): no link fault holds, and the nodes are a tree over all nodes and ssectors.
use Rattle.std.specs.Prelude.{◌≡◌, ◌≢◌, ℕ, ◌<◌, IsTrue, Some, IsSome, IsSomeAnd, ◌⊎◌}
use Rattle.std.specs.List.{slice_get}
use Rattle.map_geo.specs.declared.sides.Side.{Side}
use Rattle.map_geo.specs.Point.{IsInRange}
use Rattle.map_level.specs.Level.{Level}
use Rattle.map_level.specs.declared.finding.Code.{Code}
use Rattle.map_level.specs.Findings.{is_fault}
use Rattle.map_level.specs.LinkFaults.{LinkHolds}
use Rattle.map_tree.specs.Paths.{Place}
use Rattle.map_tree.specs.Child.{node_count, ssector_count, has, child, root, IsReached}
use Rattle.map_tree.specs.TreeFaults.{TreeHolds}

-- exactly one child word names the place
pub record IsNamedOnce (level : Level) (place : Place) : Type 0 where
  pub parent : ℕ
  pub side : Side
  pub names : child level parent side ≡ Some place
  pub only : (n : ℕ) (s : Side) → child level n s ≡ Some place → (n ≡ parent) × (s ≡ side)

-- the nodes are a tree over all nodes and ssectors, and each origin is in range
pub record IsTree (level : Level) : Type 0 where
  pub words : (n : ℕ) (s : Side) → n < node_count level → IsSome (child level n s)
  pub origins : (n : ℕ) → n < node_count level
      → IsSomeAnd (slice_get level.nodes.records n) (λ found. IsInRange found.x × IsInRange found.y)
  pub named : (place : Place) → IsTrue (has level place) → place ≢ root level
      → IsNamedOnce level place
  pub root_unnamed : (n : ℕ) (s : Side) → child level n s ≢ Some (root level)
  pub reached : (place : Place) → IsTrue (has level place) → IsReached level place

-- a sound level: no link fault holds, and its nodes are a tree; where it has
-- none it has exactly one ssector
pub record IsSound (level : Level) : Type 0 where
  pub linked : (code : Code) (i : ℕ) → IsTrue (is_fault code) → ¬ LinkHolds level code i
  pub tree : 0 < node_count level → IsTree level
  pub alone : node_count level ≡ 0 → ssector_count level ≡ 1

-- what holds of a level's links or of its nodes
abbrev pub Holds : Level → Code → ℕ → Type 0
Holds level code i = LinkHolds level code i ⊎ TreeHolds level code i

-- no fault holds
abbrev pub IsFaultless : Level → Type 0
IsFaultless level = (code : Code) (i : ℕ) → IsTrue (is_fault code) → ¬ Holds level code i
