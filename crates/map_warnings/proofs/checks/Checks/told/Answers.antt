use Rattle.std.proofs.Common.{rules}
use Rattle.map_warnings.specs.Holds.{HoldsIn, IsLookedFor, IsWarning}
use Rattle.map_warnings.proofs.ToldLemmas.{told_given, told_nothing}
use Rattle.map_warnings.proofs.checks.Checks.told.Goals as goal

pub returns-then-not-looks_for-clause-told : goal.returns-then-not-looks_for-clause-told
returns-then-not-looks_for-clause-told g c =
    let other : ¬ IsLookedFor c.args.resources.now c.args.self.now c.args.code = search rules in
    rw c.new.ensures (told_nothing (IsWarning c.args.resources.now c.args.self.now c.args.code) c.args.most (λ w h. other h.0))

pub returns-clause-told : goal.returns-clause-told
returns-clause-told g c =
    let looked : IsLookedFor c.args.resources.now c.args.self.now c.args.code = search rules in
    told_given (IsLookedFor c.args.resources.now c.args.self.now c.args.code) (HoldsIn c.args.resources.now c.args.self.now c.args.code) c.in_ok-told.told looked
    (rw c.level.ensures at c.in_ok-told.ensures.told)
