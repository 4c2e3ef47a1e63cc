-- What areas tell (ours).
use Rattle.std.specs.Prelude.{◌≡◌, ℕ, List, slice_index}
use Rattle.std.specs.List.{sum_by}
use Rattle.map_geo.specs.Point.{Point}
use Rattle.map_geo.specs.Rect.{Rect, point_count}
use Rattle.map_level.specs.Level.{Level}
use Rattle.map_tree.specs.Counts.{ArePairs}
use Rattle.map_tree.specs.PlainCount.{TellsSectors, plain_count}

-- the areas of a rectangle: the plain count of each sector, and their total
pub record AreAreas (level : Level) (rect : Rect) (pairs : List (ℕ × ℕ)) : Type 0 where
  pub counted : (sector : Point → ℕ) → TellsSectors level sector → ArePairs (λ s. plain_count sector s rect) pairs
  pub total : sum_by (λ pair. pair.1) pairs ≡ point_count rect

-- the same by a list of numbers, one a sector
abbrev pub AreCounted : Level → Rect → List ℕ → Type 0
AreCounted level rect counts = (sector : Point → ℕ) → TellsSectors level sector → (s : ℕ) → slice_index counts s ≡ plain_count sector s rect
