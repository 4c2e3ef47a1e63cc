use Rattle.std.proofs.Common.{refl}
use Rattle.std.proofs.lemmas.Int.{to_z-of_z}
use Rattle.map_geo.proofs.SpanLemmas.{HasLength-read, area_read_fits, IsRect-from_test, not_IsRect-from_test}
use Rattle.map_geo.proofs.rect.Rect.new.Goals as goal

pub overflow_mul-columns : goal.overflow_mul-columns
overflow_mul-columns c =
    let across =
    HasLength-read _ _ _ c.ranges.x0 c.ranges.x1
    (c.in_ok-columns.ensures.some.0 refl) c.in_ok-columns.ensures.value in
    let up =
    HasLength-read _ _ _ c.ranges.y0 c.ranges.y1
    (c.in_ok-rows.ensures.some.0 refl) c.in_ok-rows.ensures.value in
    area_read_fits _ _ _ _ _ _ across up

pub invariant_of-result : goal.invariant_of-result
invariant_of-result c =
    let across =
    HasLength-read _ _ _ c.ranges.x0 c.ranges.x1
    (c.in_ok-columns.ensures.some.0 refl) c.in_ok-columns.ensures.value in
    let up =
    HasLength-read _ _ _ c.ranges.y0 c.ranges.y1
    (c.in_ok-rows.ensures.some.0 refl) c.in_ok-rows.ensures.value in
    let x0 = c.ranges.x0 in
    let x1 = c.ranges.x1 in
    let y0 = c.ranges.y0 in
    let y1 = c.ranges.y1 in
    simp to_z-of_z (IsRect-from_test _ _ _ _ _ _ across up c.if-columns-rows-le-MAX_POINTS.true)

pub returns-then-columns-rows-le-MAX_POINTS-clause-some :
    goal.returns-then-columns-rows-le-MAX_POINTS-clause-some
returns-then-columns-rows-le-MAX_POINTS-clause-some c =
    let across =
    HasLength-read _ _ _ c.ranges.x0 c.ranges.x1
    (c.in_ok-columns.ensures.some.0 refl) c.in_ok-columns.ensures.value in
    let up =
    HasLength-read _ _ _ c.ranges.y0 c.ranges.y1
    (c.in_ok-rows.ensures.some.0 refl) c.in_ok-rows.ensures.value in
    (λ _. IsRect-from_test _ _ _ _ _ _ across up c.if-columns-rows-le-MAX_POINTS.true, λ _. refl)

pub returns-else-columns-rows-le-MAX_POINTS-clause-some :
    goal.returns-else-columns-rows-le-MAX_POINTS-clause-some
returns-else-columns-rows-le-MAX_POINTS-clause-some c =
    let across =
    HasLength-read _ _ _ c.ranges.x0 c.ranges.x1
    (c.in_ok-columns.ensures.some.0 refl) c.in_ok-columns.ensures.value in
    let up =
    HasLength-read _ _ _ c.ranges.y0 c.ranges.y1
    (c.in_ok-rows.ensures.some.0 refl) c.in_ok-rows.ensures.value in (
      λ e. cc,
      λ is_rect.
          absurd (not_IsRect-from_test _ _ _ _ _ _ across up c.if-columns-rows-le-MAX_POINTS.false
          is_rect),
    )
