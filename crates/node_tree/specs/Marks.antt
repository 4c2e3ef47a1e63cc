-- Marks on the places that are reached (ours).
use Rattle.std.specs.Prelude.{◌≡◌, ◌↔◌, Bool, IsTrue, List, length}
use Rattle.map_tree.specs.Marks.{IsMarked}
use Rattle.map_tree.specs.Paths.{Place}
use Rattle.node_tree.specs.Shape.{Shape, has, IsReached}
use Rattle.node_tree.specs.Slots.{slot, slot_count}

-- the places that are reached are marked, and no others
pub record AreReached (shape : Shape) (marks : List Bool) : Type 0 where
  pub long : length marks ≡ slot_count shape
  pub exact : (place : Place) → IsTrue (has shape place)
      → IsMarked marks (slot shape place) ↔ IsReached shape place
