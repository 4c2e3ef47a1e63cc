use Rattle.std.proofs.Common.{rules, ap, subst, ◌∙◌}
use Rattle.released.specs.declared.side.FixedNode.{FixedNode}
use Rattle.map_geo.specs.Point.{IsInRange}
use Rattle.released.specs.PointOnSide.{released_side}
use Rattle.released.proofs.SideCodeLemmas.{fixed_of_read, fits_of_fixed}
use Rattle.released.proofs.SideLemmas.{released_is_side, range_is_within_reach}
use Rattle.released.proofs.side.released_side_at.Goals as goal

pub returns-clause-released : goal.returns-clause-released
returns-clause-released c =
    let x = fixed_of_read c.args.point.x c.x.result c.fixed.result (search rules) (search rules) c.x.ensures.value c.fixed.ensures in
    let y = fixed_of_read c.args.point.y c.y.result c.fixed-2.result (search rules) (search rules) c.y.ensures.value c.fixed-2.ensures in
    c.released_side.ensures ∙ (λ i. released_side (x i) (y i) (c.of.ensures i))

pub returns-clause-defined : goal.returns-clause-defined
returns-clause-defined c =
    let x = fixed_of_read c.args.point.x c.x.result c.fixed.result (search rules) (search rules) c.x.ensures.value c.fixed.ensures in
    let y = fixed_of_read c.args.point.y c.y.result c.fixed-2.result (search rules) (search rules) c.y.ensures.value c.fixed-2.ensures in
    let dx = fits_of_fixed c.args.node.now.dx c.of.result.dx (search rules) (ap (λ (n : FixedNode). n.dx) c.of.ensures) in
    let dy = fits_of_fixed c.args.node.now.dy c.of.result.dy (search rules) (ap (λ (n : FixedNode). n.dy) c.of.ensures) in
    c.released_side.ensures
    ∙ (λ i. released_side (x i) (y i) (c.of.ensures i))
    ∙ released_is_side c.args.node.now c.args.point (range_is_within_reach c.args.node.now c.args.point
    c.requires.x_in c.requires.y_in dx dy
    (subst IsInRange c.x.ensures.value c.x.ensures.in_range)
    (subst IsInRange c.y.ensures.value c.y.ensures.in_range))
