use Rattle.std.proofs.Common.{◌∷◌, [], refl, rules, w32, FitsSigned}
use Rattle.std.proofs.lemmas.Int.{to_z-of_z}
use Rattle.map_geo.specs.Point.{IsInRange}
use Rattle.line_io.proofs.NumberAnswersLemmas.{both_allowed}
use Rattle.look_engines.proofs.ContentsLemmas.{coordinates_near}
use Rattle.look_engines.proofs.contents.read_point.Goals as goal

pub returns-in-Some-new-clause-read : goal.returns-in-Some-new-clause-read
returns-in-Some-new-clause-read c =
    let pair = c.in-Some.pair in
    let (exact, form, are) = c.in-Some.ensures.some in
    let x : FitsSigned w32 pair.x = search rules in
    let y : FitsSigned w32 pair.y = search rules in
    let within = (simp to_z-of_z at c.in-Some-new.ensures.some).0 refl in
    both_allowed IsInRange coordinates_near c.args.content.now exact (pair.x ∷ pair.y ∷ []) form are within.0 within.1
