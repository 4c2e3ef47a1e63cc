use Rattle.later_levels.proofs.LawLemmas.{faultless, sound}
use Rattle.later_levels.proofs.soundness.is_sound.Goals as goal

pub returns : goal.returns
returns g c =
    let one = c.args.one.now in
    let faults = rw c.in_ok-parts.ensures at c.has_no_fault.ensures in
    ((λ none. sound one (faults.0 none)), (λ is. faults.1 (faultless one is)))
