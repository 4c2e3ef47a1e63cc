use Rattle.std.proofs.Common.{pos, get_or, refl, rules, w32, FitsSigned}
use Rattle.std.proofs.lemmas.Bool.{false≢true}
use Rattle.std.proofs.lemmas.Int.{to_z-of_z}
use Rattle.look_engines.proofs.engines.CensusLemmas.{read_rect, not_rect}
use Rattle.look_engines.proofs.engines.census.read_rect.Goals as goal

pub returns-in-Some-new-clause-read : goal.returns-in-Some-new-clause-read
returns-in-Some-new-clause-read c =
    let values = c.in-Some.found.values in
    let x0 : FitsSigned w32 (get_or values 0 (pos 0)) = search rules in
    let y0 : FitsSigned w32 (get_or values 1 (pos 0)) = search rules in
    let x1 : FitsSigned w32 (get_or values 2 (pos 0)) = search rules in
    let y1 : FitsSigned w32 (get_or values 3 (pos 0)) = search rules in
    let some = c.in-Some.ensures.some in
    let rect = simp to_z-of_z at c.in-Some-new.ensures.value in
    let is = (simp to_z-of_z at c.in-Some-new.ensures.some).0 refl in
    rw rect (read_rect c.args.content.now some.0 values some.1 some.2 is)

pub returns-in-None-clause-refused : goal.returns-in-None-clause-refused
returns-in-None-clause-refused c =
    let values = c.in-Some.found.values in
    let x0 : FitsSigned w32 (get_or values 0 (pos 0)) = search rules in
    let y0 : FitsSigned w32 (get_or values 1 (pos 0)) = search rules in
    let x1 : FitsSigned w32 (get_or values 2 (pos 0)) = search rules in
    let y1 : FitsSigned w32 (get_or values 3 (pos 0)) = search rules in
    let some = c.in-Some.ensures.some in
    let out = simp to_z-of_z at c.in-None.ensures.some in
    not_rect c.args.content.now some.0 values some.1 some.2 (λ is. false≢true (out.1 is))
