use Rattle.map_warnings.proofs.GameLemmas.{ends_told}
use Rattle.map_warnings.proofs.checks.Checks.ends_game.Goals as goal

pub returns : goal.returns
returns g c =
    let told = c.in_ok-told.ensures in
    ends_told c.args.resources.now c.args.self.now c.args.code c.in_ok-told.told c.has_ending.result told.told told.most
    (rw c.count.ensures at c.if-count-most.false) (rw c.first.ensures at c.has_ending.ensures)
