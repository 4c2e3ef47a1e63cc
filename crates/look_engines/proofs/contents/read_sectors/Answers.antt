use Rattle.std.proofs.Common.{◌∷◌, [], sym, subst, rules, w32, FitsSigned}
use Rattle.std.proofs.lemmas.Int.{to_z-of_z}
use Rattle.map_level.specs.Links.{Names}
use Rattle.line_io.proofs.NumberAnswersLemmas.{both_allowed}
use Rattle.look_engines.proofs.ContentsLemmas.{sectors_near}
use Rattle.look_engines.proofs.contents.read_sectors.Goals as goal

pub returns-in-Some-Some-clause-read : goal.returns-in-Some-Some-clause-read
returns-in-Some-Some-clause-read c =
    let pair = c.in-Some.pair in
    let count = c.args.count in
    let (exact, form, are) = c.in-Some.ensures.some in
    let x : FitsSigned w32 pair.x = search rules in
    let y : FitsSigned w32 pair.y = search rules in
    let first = simp to_z-of_z at c.in-Some-Some.ensures.some in
    let second = simp to_z-of_z at c.in-Some-Some.ensures'.some in
    both_allowed (Names count) (sectors_near count c.requires.few) c.args.content.now exact (pair.x ∷ pair.y ∷ []) form are
    (subst (Names count) (sym first.0) first.1) (subst (Names count) (sym second.0) second.1)
