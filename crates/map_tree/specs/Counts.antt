-- What a census tells (ours).
use Rattle.std.specs.Prelude.{◌≡◌, ℕ, ◌+◌, ◌*◌, ◌<◌, ◌≤◌, List}
use Rattle.std.specs.List.{All, AllPairs, Contains, sum_by}
use Rattle.map_geo.specs.Point.{Point}
use Rattle.map_geo.specs.Rect.{Rect, rows_of, point_count}
use Rattle.map_level.specs.Level.{Level}
use Rattle.map_tree.specs.Child.{node_count, root}
use Rattle.map_tree.specs.PlainCount.{TellsSectors, plain_count}
use Rattle.map_tree.specs.Work.{Work}

-- pairs of a sector and how many points it has, how many tests it took to count them, and the most pieces that were pending
pub record Counts : Type 0 where
  pub pairs : List (ℕ × ℕ)
  pub tests : ℕ
  pub pending : ℕ

-- the pairs of a function's values above 0, ascending, none left out
pub record ArePairs (count : ℕ → ℕ) (pairs : List (ℕ × ℕ)) : Type 0 where
  pub right : All (λ pair. pair.1 ≡ count pair.0) pairs
  pub some : All (λ pair. 0 < pair.1) pairs
  pub ascending : AllPairs (λ pair next. pair.0 < next.0) pairs
  pub each : (s : ℕ) → 0 < count s → Contains pairs (s, count s)

-- the census of a rectangle: the plain count of each sector, their total, and the work of the rectangle at the root
pub record IsCensus (level : Level) (rect : Rect) (counts : Counts) : Type 0 where
  pub counted : (sector : Point → ℕ) → TellsSectors level sector → ArePairs (λ s. plain_count sector s rect) counts.pairs
  pub total : sum_by (λ pair. pair.1) counts.pairs ≡ point_count rect
  pub work : Work level rect (root level) counts.tests counts.pending
  pub few_tests : counts.tests ≤ 18 * rows_of rect * node_count level
  pub few_pending : counts.pending ≤ node_count level + 16
