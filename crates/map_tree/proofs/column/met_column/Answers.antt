use Rattle.std.proofs.Common.{Bool, true, false, not, ℕ, ℤ, pos, ◌+ℤ◌, ◌-ℤ◌, ◌≤ℤ◌, ◌<ℤ◌, ◌≡◌, refl, sym, ◌∙◌, rules, FitsSigned, to_z, of_z, w16, w32, arith}
use Rattle.std.proofs.lemmas.Int.{ints, to_z-of_z}
use Rattle.std.specs.Prelude.{unsigned_abs}
use Rattle.le_rec.specs.declared.records.Node.{Node}
use Rattle.map_geo.specs.declared.sides.Side.{Side}
use Rattle.map_geo.specs.Partition.{Partition, partition_of}
use Rattle.map_geo.specs.Point.{Point, IsInRange, point_at}
use Rattle.map_geo.specs.Side.{cross, side_of, other}
use Rattle.map_tree.proofs.ColumnLemmas.{Nears, nears, met_within, side_off_line, last_at, last_before}
use Rattle.map_tree.proofs.RowLemmas.{same_side, other_side}
use Rattle.map_tree.proofs.column.met_column.Goals as goal
use Rattle.map_tree.proofs.column.met_column.Goals.{else-distance-step-eq0-via-then-distance-step-eq0+else-ne, else-distance-step-eq0-via-else-distance-step-eq0}

-- what the division is of
near_by : (found : Node) (y : ℤ) (s : Side) (x0 x1 : ℤ) (at : Point) (line : Partition) (z from : ℤ) (distance step : ℕ) → FitsSigned w32 y → FitsSigned w32 x0
    → FitsSigned w32 z → FitsSigned w16 found.dy → at ≡ point_at (to_z w32 (of_z w32 x0)) (to_z w32 (of_z w32 y)) → line ≡ partition_of found → z ≡ cross line at
    → distance ≡ unsigned_abs (to_z w32 (of_z w32 z)) → from ≡ to_z w16 (of_z w16 found.dy) → step ≡ unsigned_abs (to_z w32 (of_z w32 from)) → x0 <ℤ x1
    → side_of (partition_of found) (point_at x0 y) ≡ s → side_of (partition_of found) (point_at x1 y) ≡ other s → Nears (partition_of found) y s x0 distance step
near_by found y s x0 x1 at line z from distance step fits_y fits_x fits_z fits_dy at_is line_is z_is distance_is from_is step_is ordered left right =
    let dy_is : from ≡ found.dy = from_is ∙ to_z-of_z w16 found.dy fits_dy in
    let from_fits : FitsSigned w32 from = omega (arith, ints) in
    let here = simp to_z-of_z at at_is in
    let distance_of : distance ≡ unsigned_abs z = simp to_z-of_z at distance_is in
    let step_of : step ≡ unsigned_abs found.dy = rw dy_is at (simp to_z-of_z at step_is) in
    rw (distance_of, step_of) (nears (partition_of found) y s x0 x1 z ordered (rw (line_is, here) at z_is) left right)

-- the column where the line is met, as it is read
met_is : (x0 x1 r : ℤ) (q : ℕ) → IsInRange x0 → IsInRange x1 → (x0 +ℤ pos q) ≤ℤ x1 → r ≡ to_z w32 q → to_z w32 (of_z w32 x0) +ℤ to_z w32 (of_z w32 r) ≡ x0 +ℤ pos q
met_is x0 x1 r q first last within e = omega (arith, ints, first.least, last.greatest, e)

met_fits : (x0 x1 : ℤ) (q : ℕ) → IsInRange x0 → IsInRange x1 → (x0 +ℤ pos q) ≤ℤ x1 → FitsSigned w32 (x0 +ℤ pos q)
met_fits x0 x1 q first last within = omega (arith, ints, first.least, last.greatest)

met_in : (x0 x1 : ℤ) (q : ℕ) → IsInRange x0 → IsInRange x1 → (x0 +ℤ pos q) ≤ℤ x1 → IsInRange (x0 +ℤ pos q)
met_in x0 x1 q first last within = record { least = omega (arith, ints, first.least); greatest = omega (arith, ints, last.greatest) }

before_fits : (x0 x1 : ℤ) (q : ℕ) → IsInRange x0 → IsInRange x1 → (x0 +ℤ pos q) ≤ℤ x1 → FitsSigned w32 ((x0 +ℤ pos q) -ℤ pos 1)
before_fits x0 x1 q first last within = omega (arith, ints, first.least, last.greatest)

not_true : (b : Bool) → not b ≡ true → b ≡ false
not_true true e = cc
not_true false e = refl

not_false : (b : Bool) → not b ≡ false → b ≡ true
not_false true e = refl
not_false false e = cc

pub nonzero_div-distance : goal.nonzero_div-distance
nonzero_div-distance c =
    let h = c.requires in
    let near = near_by c.args.node.now c.args.y c.args.s c.args.x0 c.args.x1 _ _ _ _ _ _ c.ranges.y c.ranges.x0 (search rules) (search rules) c.at.ensures c.at-partition.ensures c.cross.ensures c.unsigned_abs-distance.ensures.value c.from.ensures c.unsigned_abs-step.ensures.value h.ordered h.left h.right in
    near.some

pub nonzero_rem-distance : goal.nonzero_rem-distance
nonzero_rem-distance c =
    let h = c.requires in
    let near = near_by c.args.node.now c.args.y c.args.s c.args.x0 c.args.x1 _ _ _ _ _ _ c.ranges.y c.ranges.x0 (search rules) (search rules) c.at.ensures c.at-partition.ensures c.cross.ensures c.unsigned_abs-distance.ensures.value c.from.ensures c.unsigned_abs-step.ensures.value h.ordered h.left h.right in
    near.some

pub overflow_add-met : goal.overflow_add-met
overflow_add-met c =
    let h = c.requires in
    let near = near_by c.args.node.now c.args.y c.args.s c.args.x0 c.args.x1 _ _ _ _ _ _ c.ranges.y c.ranges.x0 (search rules) (search rules) c.at.ensures c.at-partition.ensures c.cross.ensures c.unsigned_abs-distance.ensures.value c.from.ensures c.unsigned_abs-step.ensures.value h.ordered h.left h.right in
    let within = met_within _ c.args.y c.args.s c.args.x0 c.args.x1 _ _ near h.right h.ordered in
    rw (met_is _ _ _ _ h.left_in h.right_in within c.cast_signed.ensures) (met_fits _ _ _ h.left_in h.right_in within)

pub at-requires-then-distance-step-eq0-clause-x_in : goal.at-requires-then-distance-step-eq0-clause-x_in
at-requires-then-distance-step-eq0-clause-x_in c =
    let h = c.requires in
    let near = near_by c.args.node.now c.args.y c.args.s c.args.x0 c.args.x1 _ _ _ _ _ _ c.ranges.y c.ranges.x0 (search rules) (search rules) c.at.ensures c.at-partition.ensures c.cross.ensures c.unsigned_abs-distance.ensures.value c.from.ensures c.unsigned_abs-step.ensures.value h.ordered h.left h.right in
    let within = met_within _ c.args.y c.args.s c.args.x0 c.args.x1 _ _ near h.right h.ordered in
    let fits = met_fits _ _ _ h.left_in h.right_in within in
    rw (met_is _ _ _ _ h.left_in h.right_in within c.cast_signed.ensures, to_z-of_z w32 _ fits) (met_in _ _ _ h.left_in h.right_in within)

pub overflow_sub-result : goal.overflow_sub-result
overflow_sub-result c =
    let h = c.requires in
    let near = near_by c.args.node.now c.args.y c.args.s c.args.x0 c.args.x1 _ _ _ _ _ _ c.ranges.y c.ranges.x0 (search rules) (search rules) c.at.ensures c.at-partition.ensures c.cross.ensures c.unsigned_abs-distance.ensures.value c.from.ensures c.unsigned_abs-step.ensures.value h.ordered h.left h.right in
    let within = met_within _ c.args.y c.args.s c.args.x0 c.args.x1 _ _ near h.right h.ordered in
    let fits = met_fits _ _ _ h.left_in h.right_in within in
    rw (met_is _ _ _ _ h.left_in h.right_in within c.cast_signed.ensures, to_z-of_z w32 _ fits) (before_fits _ _ _ h.left_in h.right_in within)

pub returns-then-ne : goal.returns-then-ne
returns-then-ne c =
    let h = c.requires in
    let near = near_by c.args.node.now c.args.y c.args.s c.args.x0 c.args.x1 _ _ _ _ _ _ c.ranges.y c.ranges.x0 (search rules) (search rules) c.at.ensures c.at-partition.ensures c.cross.ensures c.unsigned_abs-distance.ensures.value c.from.ensures c.unsigned_abs-step.ensures.value h.ordered h.left h.right in
    let within = met_within _ c.args.y c.args.s c.args.x0 c.args.x1 _ _ near h.right h.ordered in
    let fits = met_fits _ _ _ h.left_in h.right_in within in
    let is = met_is _ _ _ _ h.left_in h.right_in within c.cast_signed.ensures in
    let y = c.ranges.y in
    let there = rw (is, to_z-of_z w32 _ fits, to_z-of_z w32 _ y) at c.at-then-distance-step-eq0.ensures in
    let has = rw (c.side.ensures, c.at-partition.ensures, there) at (other_side _ _ (not_true _ (sym c.if-ne.ensures))) in
    rw (is, to_z-of_z w32 _ fits, to_z-of_z w32 _ (before_fits _ _ _ h.left_in h.right_in within)) (last_before _ c.args.y c.args.s c.args.x0 c.args.x1 _ _ near h.right h.ordered c.if-distance-step-eq0.true h.left has)

pub returns-else-distance-step-eq0 : goal.returns-else-distance-step-eq0
returns-else-distance-step-eq0 c =
    let h = c.requires in
    let near = near_by c.args.node.now c.args.y c.args.s c.args.x0 c.args.x1 _ _ _ _ _ _ c.ranges.y c.ranges.x0 (search rules) (search rules) c.at.ensures c.at-partition.ensures c.cross.ensures c.unsigned_abs-distance.ensures.value c.from.ensures c.unsigned_abs-step.ensures.value h.ordered h.left h.right in
    let within = met_within _ c.args.y c.args.s c.args.x0 c.args.x1 _ _ near h.right h.ordered in
    let fits = met_fits _ _ _ h.left_in h.right_in within in
    let is = met_is _ _ _ _ h.left_in h.right_in within c.cast_signed.ensures in
    let y = c.ranges.y in
    rw (is, to_z-of_z w32 _ fits) (last_at _ c.args.y c.args.s c.args.x0 c.args.x1 _ _ near h.right h.ordered
    (elim c.else-distance-step-eq0.branch [
      | else-distance-step-eq0-via-then-distance-step-eq0+else-ne w ↦
          let there = rw (is, to_z-of_z w32 _ fits, to_z-of_z w32 _ y) at w.at-then-distance-step-eq0.ensures in
          rw (w.side.ensures, c.at-partition.ensures, there) at (same_side _ _ (not_false _ (sym w.if-ne.ensures)))
      | else-distance-step-eq0-via-else-distance-step-eq0 w ↦ side_off_line _ c.args.y c.args.s c.args.x0 c.args.x1 _ _ near h.right h.ordered w.if-distance-step-eq0.false
    ]))
