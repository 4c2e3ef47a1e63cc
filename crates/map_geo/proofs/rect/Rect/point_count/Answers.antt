use Rattle.std.proofs.Common.{FitsSigned, w32}
use Rattle.std.proofs.lemmas.Int.{to_z-of_z}
use Rattle.map_geo.proofs.PointCountLemmas.{few_points, in_fits}
use Rattle.map_geo.proofs.rect.Rect.point_count.Goals as goal

pub returns-clause-most : goal.returns-clause-most
returns-clause-most c =
    let valid = c.x0.ensures.valid in
    let x0 : FitsSigned w32 c.x0.result = rw c.x0.ensures.value (in_fits _ valid.columns.first_in) in
    let x1 : FitsSigned w32 c.x1.result = rw c.x1.ensures.value (in_fits _ valid.columns.last_in) in
    let y0 : FitsSigned w32 c.y0.result = rw c.y0.ensures.value (in_fits _ valid.rows.first_in) in
    let y1 : FitsSigned w32 c.y1.result = rw c.y1.ensures.value (in_fits _ valid.rows.last_in) in
    let high = rw (c.y0.ensures.value, c.y1.ensures.value) at (simp to_z-of_z at c.length.ensures.value) in
    let wide = rw (c.x0.ensures.value, c.x1.ensures.value) at (simp to_z-of_z at c.length-2.ensures.value) in
    rw (high, wide) (few_points c.args.self valid)
