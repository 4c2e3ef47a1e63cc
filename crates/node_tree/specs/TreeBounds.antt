-- Nodes and ssectors at which some code holds (ours).
use Rattle.std.specs.Prelude.{ℕ, ◌<◌, ◌⊎◌}
use Rattle.node_tree.specs.Shape.{Shape}
use Rattle.node_tree.specs.TreeFaults.{ChildNamesNothing, OriginOutside, NodeNamedTwice, NodeNotReached, SsectorNamedTwice, SsectorNotReached, NoDirection}
use Rattle.node_tree.specs.declared.bounds.Bounds.{Bounds}

-- F11, F12 or N7, by a node's own record
abbrev pub NodeRecordFound : Shape → ℕ → Type 0
NodeRecordFound shape n = ChildNamesNothing shape n ⊎ (OriginOutside shape n ⊎ NoDirection shape n)

-- F13 or F14, by what names and reaches a node
abbrev pub NodePlaceFound : Shape → ℕ → Type 0
NodePlaceFound shape n = NodeNamedTwice shape n ⊎ NodeNotReached shape n

abbrev pub NodeFound : Shape → ℕ → Type 0
NodeFound shape n = NodeRecordFound shape n ⊎ NodePlaceFound shape n

-- F15 or F16
abbrev pub SsectorFound : Shape → ℕ → Type 0
SsectorFound shape t = SsectorNamedTwice shape t ⊎ SsectorNotReached shape t

-- above the number of each of them
pub record AreBounds (shape : Shape) (bounds : Bounds) : Type 0 where
  pub nodes : (n : ℕ) → NodeFound shape n → n < bounds.nodes
  pub ssectors : (t : ℕ) → SsectorFound shape t → t < bounds.ssectors
