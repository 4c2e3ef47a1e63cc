use Rattle.std.proofs.Common.{FitsSigned, w16, refl, rules}
use Rattle.std.proofs.lemmas.Int.{to_z-of_z}
use Rattle.map_cells.proofs.frame.widened.Goals as goal

pub returns-in-Some : goal.returns-in-Some
returns-in-Some c =
    let vx : FitsSigned w16 c.args.vertex.now.x = search rules in
    let vy : FitsSigned w16 c.args.vertex.now.y = search rules in
    let fx0 : FitsSigned w16 c.frame.inside.x0 = search rules in
    let fy0 : FitsSigned w16 c.frame.inside.y0 = search rules in
    let fx1 : FitsSigned w16 c.frame.inside.x1 = search rules in
    let fy1 : FitsSigned w16 c.frame.inside.y1 = search rules in
    let left : FitsSigned w16 c.min.result = search rules in
    let lowest : FitsSigned w16 c.min-in-Some.result = search rules in
    let right : FitsSigned w16 c.max.result = search rules in
    let highest : FitsSigned w16 c.max-in-Some.result = search rules in
    let x0 = simp to_z-of_z at c.min.ensures.value in
    let y0 = simp to_z-of_z at c.min-in-Some.ensures.value in
    let x1 = simp to_z-of_z at c.max.ensures.value in
    let y1 = simp to_z-of_z at c.max-in-Some.ensures.value in
    rw (c.in-Some.is, ← c.frame.view_is) (simp to_z-of_z (rw (x0, y0, x1, y1) refl))
