-- How many points of a rectangle each sector has, point by point (ours).
use Rattle.std.specs.Prelude.{◌≡◌, ℕ, zero, suc, ◌+◌, ℤ, pos, ◌+ℤ◌, ◌==◌, if◌then◌else◌, Some}
use Rattle.map_geo.specs.Point.{Point, point_at}
use Rattle.map_geo.specs.Rect.{Rect, columns_of, rows_of}
use Rattle.map_level.specs.Level.{Level}
use Rattle.map_level.specs.SectorOf.{sector_of}
use Rattle.map_tree.specs.Leaf.{IsLeaf}

-- a function that gives each point the sector of its leaf
abbrev pub TellsSectors : Level → (Point → ℕ) → Type 0
TellsSectors level sector = (point : Point) (t : ℕ) → IsLeaf level point t → sector_of level t ≡ Some (sector point)

-- 1 where the sector is s, else 0
abbrev pub one_at : ℕ → ℕ → ℕ
one_at s sector = if s == sector then 1 else 0

-- over n columns of row y, from x on
abbrev pub row_count : (Point → ℕ) → ℕ → ℤ → ℤ → ℕ → ℕ
row_count sector s y x zero = 0
row_count sector s y x (suc n) = one_at s (sector (point_at x y)) + row_count sector s y (x +ℤ pos 1) n

-- over k rows of n columns, from (x, y) on
abbrev pub rows_count : (Point → ℕ) → ℕ → ℤ → ℕ → ℤ → ℕ → ℕ
rows_count sector s x n y zero = 0
rows_count sector s x n y (suc k) = row_count sector s y x n + rows_count sector s x n (y +ℤ pos 1) k

-- the points of the rectangle whose sector is s
abbrev pub plain_count : (Point → ℕ) → ℕ → Rect → ℕ
plain_count sector s rect = rows_count sector s rect.x0 (columns_of rect) rect.y0 (rows_of rect)
