-- Nodes and ssectors at which some code holds (ours).
use Rattle.std.specs.Prelude.{ℕ, ◌<◌, ◌⊎◌}
use Rattle.map_level.specs.Level.{Level}
use Rattle.map_tree.specs.TreeFaults.{ChildNamesNothing, OriginOutside, NodeNamedTwice, NodeNotReached, SsectorNamedTwice, SsectorNotReached, NoDirection}
use Rattle.map_tree.specs.declared.tree_bounds.Bounds.{Bounds}

-- F11, F12 or N7, by a node's own record
abbrev pub NodeRecordFound : Level → ℕ → Type 0
NodeRecordFound level n = ChildNamesNothing level n ⊎ (OriginOutside level n ⊎ NoDirection level n)

-- F13 or F14, by what names and reaches a node
abbrev pub NodePlaceFound : Level → ℕ → Type 0
NodePlaceFound level n = NodeNamedTwice level n ⊎ NodeNotReached level n

abbrev pub NodeFound : Level → ℕ → Type 0
NodeFound level n = NodeRecordFound level n ⊎ NodePlaceFound level n

-- F15 or F16
abbrev pub SsectorFound : Level → ℕ → Type 0
SsectorFound level t = SsectorNamedTwice level t ⊎ SsectorNotReached level t

-- above the number of each of them
pub record AreBounds (level : Level) (bounds : Bounds) : Type 0 where
  pub nodes : (n : ℕ) → NodeFound level n → n < bounds.nodes
  pub ssectors : (t : ℕ) → SsectorFound level t → t < bounds.ssectors
