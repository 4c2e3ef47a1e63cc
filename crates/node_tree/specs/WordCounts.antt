-- How often child words name each place: 0, 1, or 2 for more than once (ours).
use Rattle.std.specs.Prelude.{◌≡◌, ℕ, ◌<◌, ◌↔◌, IsTrue, List, length, slice_index}
use Rattle.map_tree.specs.Paths.{Place}
use Rattle.node_tree.specs.Shape.{Shape, has}
use Rattle.node_tree.specs.Slots.{slot, slot_count}
use Rattle.node_tree.specs.TreeFaults.{IsNamed, IsNamedTwice}

-- which places are named, and which twice
pub record AreWordCounts (shape : Shape) (counts : List ℕ) : Type 0 where
  pub long : length counts ≡ slot_count shape
  pub named : (place : Place) → IsTrue (has shape place)
      → (0 < slice_index counts (slot shape place)) ↔ IsNamed shape place
  pub twice : (place : Place) → IsTrue (has shape place)
      → (1 < slice_index counts (slot shape place)) ↔ IsNamedTwice shape place
