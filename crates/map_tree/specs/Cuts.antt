-- How a census cuts a rectangle whose points lie on both sides of a partition (ours).
use Rattle.std.specs.Prelude.{◌≡◌, ◌≢◌, ℕ, suc, ℤ, pos, ◌+ℤ◌, ◌-ℤ◌, ◌≤ℤ◌, ◌<ℤ◌}
use Rattle.map_geo.specs.declared.sides.Side.{Side}
use Rattle.map_geo.specs.Point.{point_at}
use Rattle.map_geo.specs.Partition.{Partition}
use Rattle.map_geo.specs.Side.{other, side_of}
use Rattle.map_geo.specs.Rect.{Rect, span, IsWholeSide}

-- m is half of a + b, rounded down
pub record IsMiddle (m a b : ℤ) : Type 0 where
  pub lower : (m +ℤ m) ≤ℤ (a +ℤ b)
  pub upper : (a +ℤ b) ≤ℤ (m +ℤ m +ℤ pos 1)

-- no side of the partition has each whole point of the rectangle
abbrev pub IsCut : Rect → Partition → Type 0
IsCut rect line = (s : Side) → ¬ IsWholeSide rect line s

-- the rows up to y, those above y, the columns up to x and those right of x
abbrev pub rows_to : Rect → ℤ → Rect
rows_to rect y = record rect { y1 = y }

abbrev pub rows_above : Rect → ℤ → Rect
rows_above rect y = record rect { y0 = y +ℤ pos 1 }

abbrev pub columns_to : Rect → ℤ → Rect
columns_to rect x = record rect { x1 = x }

abbrev pub columns_right : Rect → ℤ → Rect
columns_right rect x = record rect { x0 = x +ℤ pos 1 }

-- y is the last of the lowest floor(k / 2) of k > 1 rows
pub record IsMiddleRow (rect : Rect) (y : ℤ) : Type 0 where
  pub more : rect.y0 <ℤ rect.y1
  pub middle : IsMiddle (y -ℤ rect.y0 +ℤ pos 1) (span rect.y0 rect.y1) (pos 0)

-- c is the last column with side s from l to e in row y
pub record IsLast (line : Partition) (y : ℤ) (s : Side) (l e c : ℤ) : Type 0 where
  pub from : l ≤ℤ c
  pub below : c <ℤ e
  pub has : side_of line (point_at c y) ≡ s
  pub others : (x : ℤ) → c <ℤ x → x ≤ℤ e → side_of line (point_at x y) ≡ other s

-- so many halvings lead from columns l and e of row y, of which l has side s, to two columns side by side
pub data Halvings (line : Partition) (y : ℤ) (s : Side) : ℤ → ℤ → ℕ → Type 0 where
  beside : (l e : ℤ) → e ≡ l +ℤ pos 1 → Halvings line y s l e 0
  in_right : (l e m : ℤ) (b : ℕ) → (l +ℤ pos 1) <ℤ e → IsMiddle m l e → side_of line (point_at m y) ≡ s → Halvings line y s m e b → Halvings line y s l e (suc b)
  in_left : (l e m : ℤ) (b : ℕ) → (l +ℤ pos 1) <ℤ e → IsMiddle m l e → side_of line (point_at m y) ≢ s → Halvings line y s l m b → Halvings line y s l e (suc b)
