-- Where a row of cells meets the line of a partition, by a division.
use Rattle.std.proofs.Common.{◌≡◌, ◌∙◌, inl, inr, sym, ap, subst, ℕ, zero, suc, ◌+◌, ◌-◌, ◌*◌, ◌/◌, ◌%◌, ◌<◌, ◌≤◌, ℤ, pos, ◌+ℤ◌, ◌-ℤ◌, ◌*ℤ◌, ◌<ℤ◌, lt_of_not-le, arith}
use Rattle.std.proofs.Math.Nat.{mul-le-mul_right, mul-lt-mul_of_pos_right}
use Rattle.std.proofs.lemmas.Bool.{cases_lt}
use Rattle.std.proofs.lemmas.Int.{ints, by_lt_z, unsigned_abs-mul}
use Rattle.std.proofs.lemmas.Nat.{div-add-mod', mod_below}
use Rattle.std.specs.Prelude.{unsigned_abs}
use Rattle.map_geo.specs.declared.sides.Side.{Side}
use Rattle.map_geo.specs.Partition.{Partition}
use Rattle.map_geo.specs.Point.{point_at}
use Rattle.map_geo.specs.Side.{cross, other, side_of}
use Rattle.map_tree.proofs.ColumnLemmas.{nears, cross_right}
use Rattle.map_tree.proofs.RowLemmas.{not_other}
use Rattle.map_cells.specs.Grid.{Grid, cell_x, cell_y}
use Rattle.map_cells.specs.Row.{Row, point_of}
use Rattle.map_cells.proofs.RowLemmas.{cell_x-ordered}

-- so many columns further, a row has a side before the line is met, and the other one behind it: the line comes nearer by a step with each
-- column
pub record Meets (line : Partition) (row : Row) (s : Side) (from distance step : ℕ) : Type 0 where
  pub some : 0 < step
  pub before : (k : ℕ) → k * step < distance → side_of line (point_of row (from + k)) ≡ s
  pub behind : (k : ℕ) → distance < k * step → side_of line (point_of row (from + k)) ≡ other s

further : (grid : Grid) (from k : ℕ) → cell_x grid (from + k) ≡ cell_x grid from +ℤ pos (k * grid.size)
further grid from k = omega (arith, ints)

difference : (here next z : ℤ) → next ≡ here +ℤ z → unsigned_abs (here -ℤ next) ≡ unsigned_abs z
difference here next z e = omega (arith, ints)

size_some : (x : ℤ) (k size : ℕ) → x <ℤ (x +ℤ pos (k * size)) → 0 < size
size_some x k zero h = absurd (omega (arith, ints, h))
size_some x k (suc size) h = omega arith

step_some : (dy size : ℕ) → 0 < dy → 0 < size → 0 < dy * size
step_some dy size h k = omega (arith, mul-lt-mul_of_pos_right {k = size} h k)

reordered : (k step dy size distance : ℕ) → step ≡ dy * size → k * step < distance → k * size * dy < distance
reordered k step dy size distance e less = let product : k * step ≡ k * (dy * size) = ap (λ t. k * t) e in omega (arith, product, less)

reordered_past : (k step dy size distance : ℕ) → step ≡ dy * size → distance < k * step → distance < k * size * dy
reordered_past k step dy size distance e more = let product : k * step ≡ k * (dy * size) = ap (λ t. k * t) e in omega (arith, product, more)

one_size : (dy size : ℕ) → dy * (1 * size) ≡ dy * size
one_size dy size = omega arith

-- a row that has both sides meets the line
pub meets : (line : Partition) (row : Row) (s : Side) (from last : ℕ) (here next : ℤ) → from < last → side_of line (point_of row from) ≡ s
    → side_of line (point_of row last) ≡ other s → here ≡ cross line (point_of row from) → next ≡ cross line (point_of row (from + 1))
    → Meets line row s from (unsigned_abs here) (unsigned_abs (here -ℤ next))
meets line row s from last here next more begins ends here_is next_is =
    let x0 = cell_x row.grid from in
    let x1 = cell_x row.grid last in
    let y = cell_y row.grid row.j in
    let size = row.grid.size in
    let ordered : x0 <ℤ x1 = by_lt_z x0 x1 (λ less. less)
    (λ past. let same : x0 ≡ x1 = omega (arith, ints, past, cell_x-ordered row.grid from last (omega arith)) in
    absurd (not_other s (sym begins ∙ (ap (λ x. side_of line (point_at x y)) same ∙ ends)))) in
    let whole : last ≡ from + (last - from) = omega arith in
    let near = nears line y s x0 x1 here ordered here_is begins ends in
    let across : next ≡ here +ℤ line.dy *ℤ pos (1 * size) =
    next_is ∙ (ap (λ x. cross line (point_at x y)) (further row.grid from 1) ∙ (cross_right line y x0 (1 * size) ∙ ap (λ z. z +ℤ line.dy *ℤ pos (1 * size)) (sym here_is))) in
    let step_is : unsigned_abs (here -ℤ next) ≡ unsigned_abs line.dy * size =
    difference here next _ across ∙ (unsigned_abs-mul line.dy (pos (1 * size)) ∙ one_size (unsigned_abs line.dy) size) in
    let sized : 0 < size = size_some x0 (last - from) size (subst (λ x. x0 <ℤ x) (ap (cell_x row.grid) whole ∙ further row.grid from (last - from)) ordered) in
    record {
      some = rw step_is (step_some (unsigned_abs line.dy) size near.some sized);
      before = λ k less. subst (λ x. side_of line (point_at x y) ≡ s) (sym (further row.grid from k)) (near.before (k * size) (reordered k _ _ size _ step_is less));
      behind = λ k past. subst (λ x. side_of line (point_at x y) ≡ other s) (sym (further row.grid from k)) (near.behind (k * size) (reordered_past k _ _ size _ step_is past));
    }

le_from : {a b : ℕ} → (b < a → ⊥) → a ≤ b
le_from {a = a} {b = b} never = elim (cases_lt b a) [ inl less ↦ absurd (never less) | inr from ↦ from ]

next_from : {a b : ℕ} → (b ≤ a → ⊥) → a + 1 ≤ b
next_from {a = a} {b = b} never = omega (arith, lt_of_not-le never)

apart : (distance step : ℕ) → distance ≡ distance / step * step + distance % step
apart distance step = sym (div-add-mod' distance step)

nearer : (k q step distance : ℕ) → k < q → 0 < step → q * step ≤ distance → k * step < distance
nearer k q step distance less some enough = omega (arith, mul-lt-mul_of_pos_right {k = step} less some)

past_it : (k q step distance r : ℕ) → q < k → distance ≡ q * step + r → r < step → distance < k * step
past_it k q step distance r less e small = omega (arith, mul-le-mul_right step less)

module _ (line : Partition) (row : Row) (s : Side) (from last distance step : ℕ) (met : Meets line row s from distance step)
    (ordered : from < last) (begins : side_of line (point_of row from) ≡ s) (ends : side_of line (point_of row last) ≡ other s) where
  -- the line is met by the last column
  pub within : from + distance / step ≤ last
  within = le_from (λ past.
      let whole : from + (last - from) ≡ last = omega (arith, ordered) in
      absurd (not_other s (sym (met.before (last - from) (nearer (last - from) (distance / step) step distance (omega (arith, past, ordered)) met.some (omega (arith, apart distance step))))
      ∙ (ap (λ i. side_of line (point_of row i)) whole ∙ ends))))

  pub off_line : (distance % step ≡ 0 → ⊥) → side_of line (point_of row (from + distance / step)) ≡ s
  off_line off = met.before (distance / step) (omega (arith, apart distance step, off))

  -- the columns before the one where it is met, and those behind it
  pub near_columns : (i : ℕ) → from ≤ i → i < from + distance / step → side_of line (point_of row i) ≡ s
  near_columns i after before =
      let whole : from + (i - from) ≡ i = omega (arith, after) in
      ap (λ k. side_of line (point_of row k)) (sym whole)
      ∙ met.before (i - from) (nearer (i - from) (distance / step) step distance (omega (arith, after, before)) met.some (omega (arith, apart distance step)))

  pub far_columns : (i : ℕ) → from + distance / step < i → side_of line (point_of row i) ≡ other s
  far_columns i past =
      let whole : from + (i - from) ≡ i = omega (arith, past) in
      ap (λ k. side_of line (point_of row k)) (sym whole)
      ∙ met.behind (i - from) (past_it (i - from) (distance / step) step distance (distance % step) (omega (arith, past)) (apart distance step) (mod_below distance step met.some))

  -- it isn't the first where that is on the other side, and not the last where that isn't
  pub not_first : side_of line (point_of row (from + distance / step)) ≡ other s → from < from + distance / step
  not_first has_not = lt_of_not-le (λ most.
      let same : from + distance / step ≡ from = omega (arith, most) in
      not_other s (sym begins ∙ (sym (ap (λ i. side_of line (point_of row i)) same) ∙ has_not)))

  pub not_last : side_of line (point_of row (from + distance / step)) ≡ s → from + distance / step + 1 ≤ last
  not_last has = next_from (λ most.
      let same : from + distance / step ≡ last = omega (arith, most, within) in
      not_other s (sym has ∙ (ap (λ i. side_of line (point_of row i)) same ∙ ends)))
