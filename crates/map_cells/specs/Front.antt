-- The columns of a row that are in front of segs (ours).
use Rattle.std.specs.Prelude.{◌↔◌, ℕ, ◌<◌, ◌≤◌, pos, ◌<ℤ◌}
use Rattle.map_level.specs.Level.{Level}
use Rattle.map_cells.specs.Row.{Row, point_of}
use Rattle.map_cells.specs.Shown.{IsBehind, IsSegOf, cross}
use Rattle.map_cells.specs.declared.ends.Ends.{Ends}
use Rattle.map_cells.specs.declared.front.Span.{Span}
use Rattle.map_cells.specs.declared.shown.SegRange.{SegRange}

-- column i is one of the span's
abbrev pub IsIn : Span → ℕ → Type 0
IsIn span i = (span.first ≤ i) × (i < span.end)

-- those columns of a span of which something holds
pub record IsThose (Holds : ℕ → Type 0) (span those : Span) : Type 0 where
  pub from : span.first ≤ those.first
  pub ordered : those.first ≤ those.end
  pub to : those.end ≤ span.end
  pub exact : (i : ℕ) → IsIn span i → IsIn those i ↔ Holds i

-- those that aren't behind a line of two ends, behind a level's seg k, and behind one of ssector t's segs
abbrev pub IsCutBy : Ends → Row → Span → Span → Type 0
IsCutBy ends row span those = IsThose (λ i. ¬ (cross ends (point_of row i) <ℤ pos 0)) span those

abbrev pub IsFrontOf : Level → ℕ → Row → Span → Span → Type 0
IsFrontOf level k row span those = IsThose (λ i. ¬ IsBehind level k (point_of row i)) span those

-- seg k is one of a range, and those that aren't behind one of it
abbrev pub IsOneOf : SegRange → ℕ → Type 0
IsOneOf segs k = (segs.first ≤ k) × (k < segs.end)

abbrev pub IsFrontOfRange : Level → SegRange → Row → Span → Span → Type 0
IsFrontOfRange level segs row span those =
    IsThose (λ i. (k : ℕ) → IsOneOf segs k → ¬ IsBehind level k (point_of row i)) span those

abbrev pub IsFrontOfSegs : Level → ℕ → Row → Span → Span → Type 0
IsFrontOfSegs level t row span those =
    IsThose (λ i. (k : ℕ) → IsSegOf level t k → ¬ IsBehind level k (point_of row i)) span those
