use Rattle.std.specs.Prelude.{None}
use Rattle.map_warnings.specs.Holds.{IsWarning}
use Rattle.map_warnings.proofs.ToldLemmas.{told_whole}
use Rattle.map_picture.proofs.warned.all_told.Goals as goal

pub returns : goal.returns
returns g c =
    let told = c.in_ok-told.ensures in
    told_whole (IsWarning None c.args.checks.now c.args.code) c.in_ok-told.told told.told told.most (rw c.count.ensures at c.if-count-most.false)
