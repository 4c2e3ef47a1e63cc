use Rattle.std.proofs.Common.{arith}
use Rattle.later_demos.proofs.CommandLemmas.{count_fits}
use Rattle.later_demos.specs.Refusal.{form_of}
use Rattle.later_demos.proofs.demo.LaterDemo.count.Goals as goal

pub returns-clause-bound : goal.returns-clause-bound
returns-clause-bound c =
    let d = c.self.inside in
    omega (arith, count_fits (form_of d.layout d.wrapper) d.commands.now, c.self.invariant.4, c.self.told)
