use Rattle.std.proofs.Common.{◌*◌, ◌≤◌, arith, refl}
use Rattle.std.proofs.Math.Nat.{mul-le-mul_left}
use Rattle.demo_lump.specs.Command.{command_size}
use Rattle.demo_lump.proofs.CommandLemmas.{length-commands_of}
use Rattle.demo_lump.proofs.ReadingLemmas.{command_size-some}
use Rattle.demo_lump.proofs.demo.Demo.commands.Goals as goal

pub returns-clause-commands : goal.returns-clause-commands
returns-clause-commands c = rw (← c.self.view_is, length-commands_of) refl

pub returns-clause-bound : goal.returns-clause-bound
returns-clause-bound c =
    let d = c.self.inside in
    let some = (command_size-some d.header.version).0 in
    let more : d.count * 4 ≤ d.count * command_size d.header.version =
    mul-le-mul_left d.count some in
    omega (arith, more, c.self.invariant.1, c.self.told)
