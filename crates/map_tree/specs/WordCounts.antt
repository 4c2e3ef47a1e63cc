-- How often child words name each place: 0, 1, or 2 for more than once (ours).
use Rattle.std.specs.Prelude.{◌≡◌, ◌≢◌, ℕ, ◌+◌, ◌<◌, ◌↔◌, nat_lt, if◌then◌else◌, IsTrue, List, length, Option, Some, slice_index}
use Rattle.map_level.specs.Level.{Level}
use Rattle.map_tree.specs.Paths.{Place}
use Rattle.map_tree.specs.Child.{has}
use Rattle.map_tree.specs.Slots.{slot, slot_count}
use Rattle.map_tree.specs.TreeFaults.{IsNamed, IsNamedTwice}

abbrev pub once_more : ℕ → ℕ
once_more count = if nat_lt count 2 then count + 1 else count

-- one place, or none, is named once more
pub record IsCounted (before after : List ℕ) (place : Option ℕ) : Type 0 where
  pub long : length after ≡ length before
  pub named : (k : ℕ) → place ≡ Some k → slice_index after k ≡ once_more (slice_index before k)
  pub others : (k : ℕ) → place ≢ Some k → slice_index after k ≡ slice_index before k

-- the places of a node's children, each or none, are named once more
pub record AreCounted (before after : List ℕ) (front back : Option ℕ) : Type 0 where
  pub between : List ℕ
  pub first : IsCounted before between front
  pub second : IsCounted between after back

-- which places are named, and which twice
pub record AreWordCounts (level : Level) (counts : List ℕ) : Type 0 where
  pub long : length counts ≡ slot_count level
  pub named : (place : Place) → IsTrue (has level place)
      → (0 < slice_index counts (slot level place)) ↔ IsNamed level place
  pub twice : (place : Place) → IsTrue (has level place)
      → (1 < slice_index counts (slot level place)) ↔ IsNamedTwice level place
