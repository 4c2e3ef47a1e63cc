use Rattle.map_warnings.proofs.NumberLemmas.{known}
use Rattle.map_warnings.proofs.resources.Resources.has_flat.Goals as goal

pub returns-in-Some : goal.returns-in-Some
returns-in-Some g c =
    let names = rw c.in-Some.is at c.self.invariant.1 in
    let told = known _ _ c.args.name _ names.1 c.contains.ensures.numbered in
    rw (← c.self.view_is) (λ yes. told.0 (c.contains.ensures.has.0 yes), λ there. c.contains.ensures.has.1 (told.1 there))
