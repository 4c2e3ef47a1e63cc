use Rattle.std.proofs.Common.{◌≡◌, ◌<◌, ◌+◌, ◌/◌, inl, inr, ℕ, refl, subst, rules, FitsSigned, ℤ, ◌-ℤ◌, to_z, of_z, w32, arith}
use Rattle.std.proofs.lemmas.Bool.{cases_lt}
use Rattle.std.proofs.lemmas.Int.{to_z-of_z}
use Rattle.std.specs.Prelude.{unsigned_abs}
use Rattle.map_geo.specs.declared.sides.Side.{Side}
use Rattle.map_geo.specs.Partition.{Partition}
use Rattle.map_geo.specs.Point.{Point}
use Rattle.map_geo.specs.Side.{cross, other, side_of}
use Rattle.map_cells.specs.Row.{Row, point_of}
use Rattle.map_cells.proofs.MetLemmas.{Meets, meets, within, off_line, near_columns, far_columns, not_first, not_last}
use Rattle.map_cells.proofs.WayLemmas.{sides_differ}
use Rattle.map_cells.proofs.way.met_end.Goals as goal
use Rattle.map_cells.proofs.way.met_end.Goals.{else-distance-step-eq0-via-then-distance-step-eq0+else-not-holds, else-distance-step-eq0-via-else-distance-step-eq0}

-- what the division is of
met_by : (line : Partition) (row : Row) (s : Side) (from last : ℕ) (first second : Point) (here next : ℤ) (distance step : ℕ) → FitsSigned w32 here → FitsSigned w32 next
    → from < last → side_of line (point_of row from) ≡ s → side_of line (point_of row last) ≡ other s → first ≡ point_of row from → second ≡ point_of row (from + 1)
    → here ≡ cross line first → next ≡ cross line second → distance ≡ unsigned_abs (to_z w32 (of_z w32 here))
    → step ≡ unsigned_abs (to_z w32 (of_z w32 here) -ℤ to_z w32 (of_z w32 next)) → Meets line row s from distance step
met_by line row s from last first second here next distance step fits fits_next ordered begins ends first_is second_is here_is next_is distance_is step_is =
    let distance_of : distance ≡ unsigned_abs here = simp to_z-of_z at distance_is in
    let step_of : step ≡ unsigned_abs (here -ℤ next) = simp to_z-of_z at step_is in
    rw (distance_of, step_of) (meets line row s from last here next ordered begins ends (rw first_is at here_is) (rw second_is at next_is))

pub nonzero_div-met : goal.nonzero_div-met
nonzero_div-met c =
    let test = c.args.test.now in
    let h = c.requires in
    let met = met_by test.partition test.row test.side c.args.from c.args.last _ _ _ _ _ _ (search rules) (search rules) h.ordered h.begins h.ends c.point.ensures c.point-2.ensures c.cross-here.ensures c.cross-next.ensures c.unsigned_abs-distance.ensures.value c.abs_diff-step.ensures in
    met.some

pub nonzero_rem-distance : goal.nonzero_rem-distance
nonzero_rem-distance c =
    let test = c.args.test.now in
    let h = c.requires in
    let met = met_by test.partition test.row test.side c.args.from c.args.last _ _ _ _ _ _ (search rules) (search rules) h.ordered h.begins h.ends c.point.ensures c.point-2.ensures c.cross-here.ensures c.cross-next.ensures c.unsigned_abs-distance.ensures.value c.abs_diff-step.ensures in
    met.some

pub overflow_cast-met : goal.overflow_cast-met
overflow_cast-met c =
    let test = c.args.test.now in
    let h = c.requires in
    let met = met_by test.partition test.row test.side c.args.from c.args.last _ _ _ _ _ _ (search rules) (search rules) h.ordered h.begins h.ends c.point.ensures c.point-2.ensures c.cross-here.ensures c.cross-next.ensures c.unsigned_abs-distance.ensures.value c.abs_diff-step.ensures in
    let to = within test.partition test.row test.side c.args.from c.args.last _ _ met h.ordered h.begins h.ends in
    search (arith, to, c.ranges.last)

pub overflow_add-met : goal.overflow_add-met
overflow_add-met c =
    let test = c.args.test.now in
    let h = c.requires in
    let met = met_by test.partition test.row test.side c.args.from c.args.last _ _ _ _ _ _ (search rules) (search rules) h.ordered h.begins h.ends c.point.ensures c.point-2.ensures c.cross-here.ensures c.cross-next.ensures c.unsigned_abs-distance.ensures.value c.abs_diff-step.ensures in
    let to = within test.partition test.row test.side c.args.from c.args.last _ _ met h.ordered h.begins h.ends in
    search (arith, to, c.ranges.last)

pub holds-requires : goal.holds-requires
holds-requires c =
    let test = c.args.test.now in
    let h = c.requires in
    let met = met_by test.partition test.row test.side c.args.from c.args.last _ _ _ _ _ _ (search rules) (search rules) h.ordered h.begins h.ends c.point.ensures c.point-2.ensures c.cross-here.ensures c.cross-next.ensures c.unsigned_abs-distance.ensures.value c.abs_diff-step.ensures in
    let to = within test.partition test.row test.side c.args.from c.args.last _ _ met h.ordered h.begins h.ends in
    omega (arith, to, h.within)

pub overflow_add-result : goal.overflow_add-result
overflow_add-result c =
    let test = c.args.test.now in
    let h = c.requires in
    let met = met_by test.partition test.row test.side c.args.from c.args.last _ _ _ _ _ _ (search rules) (search rules) h.ordered h.begins h.ends c.point.ensures c.point-2.ensures c.cross-here.ensures c.cross-next.ensures c.unsigned_abs-distance.ensures.value c.abs_diff-step.ensures in
    let has : side_of test.partition (point_of test.row (c.args.from + c.unsigned_abs-distance.result / c.abs_diff-step.result)) ≡ test.side = elim c.else-distance-step-eq0.branch [
      | else-distance-step-eq0-via-then-distance-step-eq0+else-not-holds w ↦ w.if-not-holds.ensures.0 refl
      | else-distance-step-eq0-via-else-distance-step-eq0 w ↦ off_line test.partition test.row test.side c.args.from c.args.last _ _ met h.ordered h.begins h.ends w.if-distance-step-eq0.false
    ] in
    let to = not_last test.partition test.row test.side c.args.from c.args.last _ _ met h.ordered h.begins h.ends has in
    search (arith, to, c.ranges.last)

pub returns-then-not-holds-clause-some : goal.returns-then-not-holds-clause-some
returns-then-not-holds-clause-some c =
    let test = c.args.test.now in
    let h = c.requires in
    let met = met_by test.partition test.row test.side c.args.from c.args.last _ _ _ _ _ _ (search rules) (search rules) h.ordered h.begins h.ends c.point.ensures c.point-2.ensures c.cross-here.ensures c.cross-next.ensures c.unsigned_abs-distance.ensures.value c.abs_diff-step.ensures in
    let has_not = sides_differ _ test.side (λ is. let yes = c.if-not-holds.ensures.1 is in let f : ⊥ = cc in f) in
    not_first test.partition test.row test.side c.args.from c.args.last _ _ met h.ordered h.begins h.ends has_not

pub returns-then-not-holds-clause-within : goal.returns-then-not-holds-clause-within
returns-then-not-holds-clause-within c =
    let test = c.args.test.now in
    let h = c.requires in
    let met = met_by test.partition test.row test.side c.args.from c.args.last _ _ _ _ _ _ (search rules) (search rules) h.ordered h.begins h.ends c.point.ensures c.point-2.ensures c.cross-here.ensures c.cross-next.ensures c.unsigned_abs-distance.ensures.value c.abs_diff-step.ensures in
    within test.partition test.row test.side c.args.from c.args.last _ _ met h.ordered h.begins h.ends

pub returns-then-not-holds-clause-near : goal.returns-then-not-holds-clause-near
returns-then-not-holds-clause-near c =
    let test = c.args.test.now in
    let h = c.requires in
    let met = met_by test.partition test.row test.side c.args.from c.args.last _ _ _ _ _ _ (search rules) (search rules) h.ordered h.begins h.ends c.point.ensures c.point-2.ensures c.cross-here.ensures c.cross-next.ensures c.unsigned_abs-distance.ensures.value c.abs_diff-step.ensures in
    near_columns test.partition test.row test.side c.args.from c.args.last _ _ met h.ordered h.begins h.ends

pub returns-then-not-holds-clause-far : goal.returns-then-not-holds-clause-far
returns-then-not-holds-clause-far c =
    let test = c.args.test.now in
    let h = c.requires in
    let met = met_by test.partition test.row test.side c.args.from c.args.last _ _ _ _ _ _ (search rules) (search rules) h.ordered h.begins h.ends c.point.ensures c.point-2.ensures c.cross-here.ensures c.cross-next.ensures c.unsigned_abs-distance.ensures.value c.abs_diff-step.ensures in
    let has_not = sides_differ _ test.side (λ is. let yes = c.if-not-holds.ensures.1 is in let f : ⊥ = cc in f) in
    λ i after before. elim (cases_lt (c.args.from + c.unsigned_abs-distance.result / c.abs_diff-step.result) i) [
      | inl past ↦ far_columns test.partition test.row test.side c.args.from c.args.last _ _ met h.ordered h.begins h.ends i past
      | inr most ↦ subst (λ k. side_of test.partition (point_of test.row k) ≡ other test.side) (omega (arith, after, most)) has_not
    ]

pub returns-else-distance-step-eq0-clause-within : goal.returns-else-distance-step-eq0-clause-within
returns-else-distance-step-eq0-clause-within c =
    let test = c.args.test.now in
    let h = c.requires in
    let met = met_by test.partition test.row test.side c.args.from c.args.last _ _ _ _ _ _ (search rules) (search rules) h.ordered h.begins h.ends c.point.ensures c.point-2.ensures c.cross-here.ensures c.cross-next.ensures c.unsigned_abs-distance.ensures.value c.abs_diff-step.ensures in
    let has : side_of test.partition (point_of test.row (c.args.from + c.unsigned_abs-distance.result / c.abs_diff-step.result)) ≡ test.side = elim c.else-distance-step-eq0.branch [
      | else-distance-step-eq0-via-then-distance-step-eq0+else-not-holds w ↦ w.if-not-holds.ensures.0 refl
      | else-distance-step-eq0-via-else-distance-step-eq0 w ↦ off_line test.partition test.row test.side c.args.from c.args.last _ _ met h.ordered h.begins h.ends w.if-distance-step-eq0.false
    ] in
    not_last test.partition test.row test.side c.args.from c.args.last _ _ met h.ordered h.begins h.ends has

pub returns-else-distance-step-eq0-clause-near : goal.returns-else-distance-step-eq0-clause-near
returns-else-distance-step-eq0-clause-near c =
    let test = c.args.test.now in
    let h = c.requires in
    let met = met_by test.partition test.row test.side c.args.from c.args.last _ _ _ _ _ _ (search rules) (search rules) h.ordered h.begins h.ends c.point.ensures c.point-2.ensures c.cross-here.ensures c.cross-next.ensures c.unsigned_abs-distance.ensures.value c.abs_diff-step.ensures in
    let has : side_of test.partition (point_of test.row (c.args.from + c.unsigned_abs-distance.result / c.abs_diff-step.result)) ≡ test.side = elim c.else-distance-step-eq0.branch [
      | else-distance-step-eq0-via-then-distance-step-eq0+else-not-holds w ↦ w.if-not-holds.ensures.0 refl
      | else-distance-step-eq0-via-else-distance-step-eq0 w ↦ off_line test.partition test.row test.side c.args.from c.args.last _ _ met h.ordered h.begins h.ends w.if-distance-step-eq0.false
    ] in
    λ i after before. elim (cases_lt i (c.args.from + c.unsigned_abs-distance.result / c.abs_diff-step.result)) [
      | inl less ↦ near_columns test.partition test.row test.side c.args.from c.args.last _ _ met h.ordered h.begins h.ends i after less
      | inr from ↦ subst (λ k. side_of test.partition (point_of test.row k) ≡ test.side) (omega (arith, before, from)) has
    ]

pub returns-else-distance-step-eq0-clause-far : goal.returns-else-distance-step-eq0-clause-far
returns-else-distance-step-eq0-clause-far c =
    let test = c.args.test.now in
    let h = c.requires in
    let met = met_by test.partition test.row test.side c.args.from c.args.last _ _ _ _ _ _ (search rules) (search rules) h.ordered h.begins h.ends c.point.ensures c.point-2.ensures c.cross-here.ensures c.cross-next.ensures c.unsigned_abs-distance.ensures.value c.abs_diff-step.ensures in
    λ i after before. far_columns test.partition test.row test.side c.args.from c.args.last _ _ met h.ordered h.begins h.ends i (omega (arith, after))
