-- How many points a rectangle has, from the lengths of its sides.
use Rattle.std.proofs.Common.{ℤ, pos, ◌≤ℤ◌, ◌*ℤ◌, ◌-ℤ◌, ◌≡◌, ◌≤◌, true, false, FitsSigned, to_z, of_z, w32, arith}
use Rattle.std.proofs.lemmas.Int.{ints, to_z-of_z, fits_signed_mul}
use Rattle.std.specs.Prelude.{◌+ℤ◌, unsigned_abs, int_le}
use Rattle.map_geo.specs.Point.{IsInRange}
use Rattle.map_geo.specs.Rect.{IsSpan, IsRect, rect_at, span}

-- n whole numbers go from a to b
pub record HasLength (a b n : ℤ) : Type 0 where
  pub is_span : IsSpan a b
  pub length : n ≡ span a b

-- the same, of ends that the code reads
pub HasLength-read : (a b n : ℤ) → FitsSigned w32 a → FitsSigned w32 b
    → IsSpan (to_z w32 (of_z w32 a)) (to_z w32 (of_z w32 b))
    → n ≡ span (to_z w32 (of_z w32 a)) (to_z w32 (of_z w32 b)) → HasLength a b n
HasLength-read a b n a_fits b_fits h e =
    record { is_span = simp to_z-of_z at h; length = simp to_z-of_z at e }

unsigned_abs-length : (a b n : ℤ) → HasLength a b n → unsigned_abs n ≤ 32768
unsigned_abs-length a b n h =
    omega (
      arith,
      ints,
      h.length,
      h.is_span.first_in.least,
      h.is_span.last_in.greatest,
      h.is_span.ordered,
    )

le_from_test : (a b : ℤ) → int_le a b ≡ true → a ≤ℤ b
le_from_test a b e = omega (arith, ints)

gt_from_test : (a b : ℤ) → int_le a b ≡ false → a ≤ℤ b → ⊥
gt_from_test a b e h = omega (arith, ints)

module _ (x0 y0 x1 y1 columns rows : ℤ) (across : HasLength x0 x1 columns)
    (up : HasLength y0 y1 rows) where
  columns_fit : FitsSigned w32 columns
  columns_fit = omega (arith, ints, unsigned_abs-length x0 x1 columns across)

  rows_fit : FitsSigned w32 rows
  rows_fit = omega (arith, ints, unsigned_abs-length y0 y1 rows up)

  area_fits : FitsSigned w32 (columns *ℤ rows)
  area_fits =
      fits_signed_mul w32 columns rows 32768 32768 (unsigned_abs-length x0 x1 columns across)
      (unsigned_abs-length y0 y1 rows up) (omega arith)

  -- what the code reads at `columns * rows`
  pub area_read_fits : FitsSigned w32 (to_z w32 (of_z w32 columns) *ℤ to_z w32 (of_z w32 rows))
  area_read_fits = let c = columns_fit in let r = rows_fit in simp to_z-of_z area_fits

  area_read : to_z w32 (of_z w32 (to_z w32 (of_z w32 columns) *ℤ to_z w32 (of_z w32 rows)))
      ≡ columns *ℤ rows
  area_read = let c = columns_fit in let r = rows_fit in let a = area_fits in simp to_z-of_z

  pub IsRect-from_test : int_le
      (to_z w32 (of_z w32 (to_z w32 (of_z w32 columns) *ℤ to_z w32 (of_z w32 rows)))) (pos 1048576)
      ≡ true
      → IsRect (rect_at x0 y0 x1 y1)
  IsRect-from_test test = record {
    columns = across.is_span;
    rows = up.is_span;
    points = rw (← across.length, ← up.length, ← area_read) (le_from_test _ _ test);
  }

  pub not_IsRect-from_test : int_le
      (to_z w32 (of_z w32 (to_z w32 (of_z w32 columns) *ℤ to_z w32 (of_z w32 rows)))) (pos 1048576)
      ≡ false
      → IsRect (rect_at x0 y0 x1 y1) → ⊥
  not_IsRect-from_test test is_rect =
      gt_from_test (columns *ℤ rows) (pos 1048576) (rw area_read at test)
      (rw (across.length, up.length) is_rect.points)

-- the span whose ends the code reads and tests
pub IsSpan-from_tests : (a b : ℤ) → FitsSigned w32 a → FitsSigned w32 b
    → IsInRange (to_z w32 (of_z w32 a)) → IsInRange (to_z w32 (of_z w32 b))
    → int_le (to_z w32 (of_z w32 a)) (to_z w32 (of_z w32 b)) ≡ true → IsSpan a b
IsSpan-from_tests a b a_fits b_fits first_in last_in test = record {
  first_in = simp to_z-of_z at first_in;
  last_in = simp to_z-of_z at last_in;
  ordered = le_from_test a b (simp to_z-of_z at test);
}

-- what the code reads at `last - first + 1`
module _ (a b : ℤ) (h : IsSpan a b) where
  first_fits : FitsSigned w32 a
  first_fits = omega (arith, ints, h.first_in.least, h.first_in.greatest)

  last_fits : FitsSigned w32 b
  last_fits = omega (arith, ints, h.last_in.least, h.last_in.greatest)

  difference_fits : FitsSigned w32 (b -ℤ a)
  difference_fits = omega (arith, ints, h.first_in.least, h.last_in.greatest, h.ordered)

  span_fits : FitsSigned w32 (span a b)
  span_fits = omega (arith, ints, h.first_in.least, h.last_in.greatest, h.ordered)

  pub difference_read_fits : FitsSigned w32 (to_z w32 (of_z w32 b) -ℤ to_z w32 (of_z w32 a))
  difference_read_fits = let f = first_fits in let l = last_fits in simp to_z-of_z difference_fits

  pub span_read_fits : FitsSigned w32
      (to_z w32 (of_z w32 (to_z w32 (of_z w32 b) -ℤ to_z w32 (of_z w32 a))) +ℤ pos 1)
  span_read_fits =
      let f = first_fits in let l = last_fits in let d = difference_fits in simp to_z-of_z span_fits

  pub span_read : to_z w32 (of_z w32
      (to_z w32 (of_z w32 (to_z w32 (of_z w32 b) -ℤ to_z w32 (of_z w32 a))) +ℤ pos 1)) ≡ span a b
  span_read =
      let f = first_fits in let l = last_fits in let d = difference_fits in let s = span_fits in simp to_z-of_z
