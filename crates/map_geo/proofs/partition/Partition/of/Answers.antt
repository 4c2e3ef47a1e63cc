use Rattle.std.proofs.Common.{FitsSigned, w16, w32, refl, rules}
use Rattle.std.proofs.lemmas.Int.{to_z-of_z}
use Rattle.map_geo.proofs.partition.Partition.of.Goals as goal

pub returns-then-is_in_range-2-clause-some : goal.returns-then-is_in_range-2-clause-some
returns-then-is_in_range-2-clause-some c =
    let node_x : FitsSigned w16 c.args.node.now.x = search rules in
    let node_y : FitsSigned w16 c.args.node.now.y = search rules in
    let x : FitsSigned w32 c.from-x.result = search rules in
    let y : FitsSigned w32 c.from-y.result = search rules in
    let x_is = simp to_z-of_z at c.from-x.ensures in
    let y_is = simp to_z-of_z at c.from-y.ensures in
    let x_in = simp to_z-of_z at c.if-is_in_range.ensures in
    let y_in = simp to_z-of_z at c.if-is_in_range-2.ensures in
    (λ _. (rw (← x_is) (x_in.0 refl), rw (← y_is) (y_in.0 refl)), λ _. refl)
