-- A rectangle cut at a row or a column is one.
use Rattle.std.proofs.Common.{ℤ, pos, negsuc, ◌≤ℤ◌, ◌*ℤ◌, arith}
use Rattle.std.proofs.lemmas.Int.{ints}
use Rattle.std.proofs.lemmas.Nat.{mul-le}
use Rattle.map_geo.specs.Rect.{Rect, IsSpan, IsRect, span}

-- smaller factors have no more points
fewer_points : (a b c d : ℤ) → pos 0 ≤ℤ a → a ≤ℤ c → pos 0 ≤ℤ b → b ≤ℤ d → (c *ℤ d) ≤ℤ pos 1048576
    → (a *ℤ b) ≤ℤ pos 1048576
fewer_points (pos a) (pos b) (pos c) (pos d) i h j k most =
    omega (arith, ints, mul-le a b c d (omega (arith, ints)) (omega (arith, ints)))
fewer_points (negsuc a) b c d i h j k most = absurd (omega (arith, ints))
fewer_points a (negsuc b) c d i h j k most = absurd (omega (arith, ints))
fewer_points a b (negsuc c) d i h j k most = absurd (omega (arith, ints))
fewer_points a b c (negsuc d) i h j k most = absurd (omega (arith, ints))

IsRect-within : (whole cut : Rect) → IsRect whole → IsSpan cut.x0 cut.x1 → IsSpan cut.y0 cut.y1
    → span cut.x0 cut.x1 ≤ℤ span whole.x0 whole.x1 → span cut.y0 cut.y1 ≤ℤ span whole.y0 whole.y1
    → IsRect cut
IsRect-within whole cut h columns rows fewer_columns fewer_rows = record {
  columns = columns;
  rows = rows;
  points =
      fewer_points (span cut.x0 cut.x1) (span cut.y0 cut.y1) (span whole.x0 whole.x1)
      (span whole.y0 whole.y1)
      (let ordered = columns.ordered in omega (arith, ints)) fewer_columns
      (let ordered = rows.ordered in omega (arith, ints)) fewer_rows h.points;
}

module _ (a m b : ℤ) (h : IsSpan a b) (from : a ≤ℤ m) (to : m ≤ℤ b) where
  middle_is_span : IsSpan m m
  middle_is_span =
      let least = h.first_in.least in
      let greatest = h.last_in.greatest in
      record {
        first_in = record { least = omega (arith, ints); greatest = omega (arith, ints) };
        last_in = record { least = omega (arith, ints); greatest = omega (arith, ints) };
        ordered = omega (arith, ints);
      }

  lower_is_span : IsSpan a m
  lower_is_span = record { first_in = h.first_in; last_in = middle_is_span.last_in; ordered = from }

  upper_is_span : IsSpan m b
  upper_is_span = record { first_in = middle_is_span.first_in; last_in = h.last_in; ordered = to }

  lower_is_less : span a m ≤ℤ span a b
  lower_is_less = omega (arith, ints)

  upper_is_less : span m b ≤ℤ span a b
  upper_is_less = omega (arith, ints)

same_is_less : (z : ℤ) → z ≤ℤ z
same_is_less z = omega (arith, ints)

module _ (rect : Rect) (h : IsRect rect) (z : ℤ) where
  pub IsRect-rows_to : rect.y0 ≤ℤ z → z ≤ℤ rect.y1 → IsRect (record rect { y1 = z })
  IsRect-rows_to from to =
      IsRect-within rect _ h h.columns (lower_is_span _ z _ h.rows from to) (same_is_less _)
      (lower_is_less _ z _ h.rows from to)

  pub IsRect-rows_from : rect.y0 ≤ℤ z → z ≤ℤ rect.y1 → IsRect (record rect { y0 = z })
  IsRect-rows_from from to =
      IsRect-within rect _ h h.columns (upper_is_span _ z _ h.rows from to) (same_is_less _)
      (upper_is_less _ z _ h.rows from to)

  pub IsRect-columns_to : rect.x0 ≤ℤ z → z ≤ℤ rect.x1 → IsRect (record rect { x1 = z })
  IsRect-columns_to from to =
      IsRect-within rect _ h (lower_is_span _ z _ h.columns from to) h.rows
      (lower_is_less _ z _ h.columns from to) (same_is_less _)

  pub IsRect-columns_from : rect.x0 ≤ℤ z → z ≤ℤ rect.x1 → IsRect (record rect { x0 = z })
  IsRect-columns_from from to =
      IsRect-within rect _ h (upper_is_span _ z _ h.columns from to) h.rows
      (upper_is_less _ z _ h.columns from to) (same_is_less _)
