-- Marks on the places that are reached (ours).
use Rattle.std.specs.Prelude.{◌≡◌, ℕ, ◌+◌, ◌<◌, ◌↔◌, Bool, false, true, not, count_by, IsTrue, List, length, Option, Some, slice_index_or, Contains, ◌⊎◌}
use Rattle.map_level.specs.Level.{Level}
use Rattle.map_tree.specs.Paths.{Place}
use Rattle.map_tree.specs.Child.{has, IsReached}
use Rattle.map_tree.specs.Slots.{slot, slot_count}

-- a slot is marked
abbrev pub IsMarked : List Bool → ℕ → Type 0
IsMarked marks k = (k < length marks) × (slice_index_or marks k false ≡ true)

-- how many are not marked
abbrev pub unmarked : List Bool → ℕ
unmarked marks = count_by not marks

-- a slot, where there is one, was marked or is now, and then it waits
pub record IsMarking (slot : Option ℕ) (before after : List Bool)
    (waits_before waits_after : List ℕ) : Type 0 where
  pub long : length after ≡ length before
  pub marked : (k : ℕ) → slot ≡ Some k → IsMarked after k
  pub kept : (k : ℕ) → IsMarked before k → IsMarked after k
  pub only : (k : ℕ) → IsMarked after k → (slot ≡ Some k) ⊎ IsMarked before k
  pub waits : (k : ℕ) → IsMarked after k → IsMarked before k ⊎ Contains waits_after k
  pub still : (k : ℕ) → Contains waits_before k → Contains waits_after k
  pub added : (k : ℕ) → Contains waits_after k → (slot ≡ Some k) ⊎ Contains waits_before k
  pub same : length waits_after + unmarked after ≡ length waits_before + unmarked before

-- the same of a node's two children
pub record AreMarking (front back : Option ℕ) (before after : List Bool)
    (waits_before waits_after : List ℕ) : Type 0 where
  pub between : List Bool
  pub waits_between : List ℕ
  pub first : IsMarking front before between waits_before waits_between
  pub second : IsMarking back between after waits_between waits_after

-- the places that are reached are marked, and no others
pub record AreReached (level : Level) (marks : List Bool) : Type 0 where
  pub long : length marks ≡ slot_count level
  pub exact : (place : Place) → IsTrue (has level place)
      → IsMarked marks (slot level place) ↔ IsReached level place
