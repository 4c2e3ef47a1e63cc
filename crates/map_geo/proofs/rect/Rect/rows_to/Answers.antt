use Rattle.std.proofs.Common.{FitsSigned, w32, rules}
use Rattle.std.proofs.lemmas.Int.{to_z-of_z}
use Rattle.map_geo.proofs.CutLemmas.{IsRect-rows_to}
use Rattle.map_geo.proofs.rect.Rect.rows_to.Goals as goal

pub invariant_of-result : goal.invariant_of-result
invariant_of-result c =
    let x0 : FitsSigned w32 c.self.inside.x0 = search rules in
    let y0 : FitsSigned w32 c.self.inside.y0 = search rules in
    let x1 : FitsSigned w32 c.self.inside.x1 = search rules in
    let y1 : FitsSigned w32 c.self.inside.y1 = search rules in
    let y = c.ranges.y in
    let from = rw (← c.self.view_is) at c.requires.from in
    let to = rw (← c.self.view_is) at c.requires.to in
    simp to_z-of_z (IsRect-rows_to _ c.self.invariant _ from to)
