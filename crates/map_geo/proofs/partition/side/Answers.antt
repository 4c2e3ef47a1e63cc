use Rattle.std.proofs.Common.{FitsSigned, w32, pos, sym, ap, ◌∙◌, arith, rules}
use Rattle.std.proofs.lemmas.Int.{ints, to_z-of_z}
use Rattle.std.specs.Ordering.{int_cmp}
use Rattle.map_geo.specs.Partition.{Partition}
use Rattle.map_geo.specs.Side.{is_origin, side_of_tie}
use Rattle.map_geo.proofs.SignLemmas.{side_of-front, side_of-back, side_of-tie}
use Rattle.map_geo.proofs.partition.side.Goals as goal

pub returns-then-c-eq0 : goal.returns-then-c-eq0
returns-then-c-eq0 c =
    let inside = c.partition.inside in
    let dx : FitsSigned w32 inside.dx = search rules in
    let dy : FitsSigned w32 inside.dy = search rules in
    let tie = simp to_z-of_z at c.side_of_tie.ensures in
    tie
    ∙ ap (side_of_tie (int_cmp inside.dx (pos 0)) (int_cmp inside.dy (pos 0))) c.is_origin.ensures
    ∙ ap (λ (p : Partition). side_of_tie (int_cmp p.dx (pos 0)) (int_cmp p.dy (pos 0)) (is_origin c.args.partition c.args.point)) c.partition.view_is
    ∙ sym (side_of-tie _ _ c.cross-c.result c.cross-c.ensures (omega (arith, ints)))

pub returns-then-c-lt0 : goal.returns-then-c-lt0
returns-then-c-lt0 c =
    sym (side_of-back _ _ c.cross-c.result c.cross-c.ensures (omega (arith, ints)))

pub returns-else-c-lt0 : goal.returns-else-c-lt0
returns-else-c-lt0 c =
    sym (side_of-front _ _ c.cross-c.result c.cross-c.ensures (omega (arith, ints)))
