-- A sound level bounds the work of a rectangle at its root.
use Rattle.std.proofs.Common.{ℕ, ◌+◌, ◌*◌, ◌-◌, ◌≤◌, arith}
use Rattle.std.proofs.Math.Nat.{mul-le-mul_left}
use Rattle.std.proofs.lemmas.Int.{ints}
use Rattle.map_geo.specs.Rect.{Rect, IsRect, rows_of}
use Rattle.map_level.specs.Level.{Level}
use Rattle.map_tree.specs.Paths.{Place}
use Rattle.map_tree.specs.Child.{node_count, root}
use Rattle.map_tree.specs.Sound.{IsTree, IsSound}
use Rattle.map_tree.specs.Work.{Work}
use Rattle.map_tree.proofs.BoundLemmas.{IsArea, tests-most, depth-most}
use Rattle.map_tree.proofs.CountLemmas.{rows_few}
use Rattle.map_tree.proofs.SizeLemmas.{sizes-from_sound, size-of_root}
use Rattle.map_tree.proofs.Sizes.{size_of, AreSizes}
use Rattle.map_tree.proofs.SoundLemmas.{few_nodes, tree_from_sound}

-- what a sound level gives
pub record IsSized (level : Level) (size : Place → ℕ) : Type 0 where
  pub sound : IsSound level
  pub tree : IsTree level
  pub few : node_count level ≤ 32767
  pub sizes : AreSizes level size
  pub whole_size : size (root level) ≤ node_count level

pub sized-from_sound : (level : Level) → IsSound level → IsSized level (size_of level)
sized-from_sound level sound = record {
  sound = sound;
  tree = tree_from_sound level sound;
  few = few_nodes level sound;
  sizes = sizes-from_sound level sound;
  whole_size = size-of_root level sound;
}

pub area_from_rect : (b : Rect) → IsRect b → IsArea b
area_from_rect b valid =
    let least = valid.columns.first_in.least in
    let greatest = valid.columns.last_in.greatest in
    record { columns = valid.columns.ordered; rows = valid.rows.ordered; near = omega (arith, ints) }

fewer_tests : (k m n t : ℕ) → m ≤ n → t ≤ 18 * k * m - 1 → t ≤ 18 * k * n
fewer_tests k m n t h j = omega (arith, mul-le-mul_left k h)

fewer_pending : (p m n : ℕ) → m ≤ n → p ≤ m + 1 + 15 → p ≤ n + 16
fewer_pending p m n h j = omega arith

-- the bounds of a rectangle's work at the root
module _ (level : Level) (size : Place → ℕ) (rect : Rect) (sized : IsSized level size) (valid : IsRect rect) (tests pending : ℕ) (work : Work level rect (root level) tests pending) where
  pub work_few_tests : tests ≤ 18 * rows_of rect * node_count level
  work_few_tests = fewer_tests (rows_of rect) (size (root level)) (node_count level) tests sized.whole_size (tests-most level size sized.sizes rect (root level) tests pending work (area_from_rect rect valid))

  pub work_few_pending : pending ≤ node_count level + 16
  work_few_pending = fewer_pending pending (size (root level)) (node_count level) sized.whole_size (depth-most level size sized.sizes rect (root level) tests pending 15 work (area_from_rect rect valid) (rows_few rect valid))
