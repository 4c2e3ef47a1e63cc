-- Which sector is shown at a point (ours): that of its leaf, but not behind the linedefs of the leaf's segs, which cut the void away.
use Rattle.std.specs.Prelude.{◌≡◌, ℕ, ℤ, pos, ◌+ℤ◌, ◌-ℤ◌, ◌*ℤ◌, ◌≤ℤ◌, ◌<ℤ◌, Some, IsSomeAnd}
use Rattle.std.specs.List.{slice_get}
use Rattle.map_geo.specs.Point.{Point, IsInRange, point_at}
use Rattle.map_level.specs.Level.{Level}
use Rattle.map_level.specs.Reading.{number_of}
use Rattle.map_level.specs.SectorOf.{sector_of}
use Rattle.map_tree.specs.Leaf.{IsLeaf}
use Rattle.map_cells.specs.Ends.{line_ends}
use Rattle.map_cells.specs.declared.ends.Ends.{Ends}

-- below 0 where the point is on the left of the way from start to end, behind it as R_PointOnSide of r_main.c has it
abbrev pub cross : Ends → Point → ℤ
cross ends point =
    (ends.to.y -ℤ ends.from.y) *ℤ (point.x -ℤ ends.from.x) -ℤ (ends.to.x -ℤ ends.from.x) *ℤ (point.y -ℤ ends.from.y)

-- the point is behind a seg: behind the linedef along which the seg runs, in the direction of the seg
abbrev pub IsBehind : Level → ℕ → Point → Type 0
IsBehind level i point = IsSomeAnd (line_ends level i) (λ ends. cross ends point <ℤ pos 0)

-- i is one of so many numbers from the first on
abbrev pub IsFromOn : ℤ → ℤ → ℕ → Type 0
IsFromOn first count i = (first ≤ℤ pos i) × (pos i <ℤ (first +ℤ count))

-- seg i is one of ssector t's
abbrev pub IsSegOf : Level → ℕ → ℕ → Type 0
IsSegOf level t i =
    IsSomeAnd (slice_get level.ssectors.records t)
    (λ ssector. IsFromOn (number_of level.reading ssector.first) (number_of level.reading ssector.count) i)

-- sector s is shown at the point (x, y): it is the sector of the point's leaf, and the point is behind none of the leaf's segs
pub record IsShown (level : Level) (x y : ℤ) (s : ℕ) : Type 0 where
  pub column : IsInRange x
  pub row : IsInRange y
  pub t : ℕ
  pub leaf : IsLeaf level (point_at x y) t
  pub front : (i : ℕ) → IsSegOf level t i → ¬ IsBehind level i (point_at x y)
  pub sector : sector_of level t ≡ Some s
