use Rattle.std.proofs.Common.{arith, ap, length}
use Rattle.std.proofs.lemmas.List.{take_rest}
use Rattle.later_demos.proofs.CommandLemmas.{commands_end, commands_more}
use Rattle.later_demos.proofs.command.CommandsIterator.next.Goals as goal

pub returns-in_err-size-clause-steps : goal.returns-in_err-size-clause-steps
returns-in_err-size-clause-steps c =
    let none = commands_end _ _ c.in_err-size.ensures in
    rw (c.from_residual.ensures, ← c.self.view_is) (none, none)

pub returns-clause-steps : goal.returns-clause-steps
returns-clause-steps c =
    let next = c.in_ok-size.ensures in
    rw (← c.self.view_is, take_rest, next.sized, c.command_from-command.ensures) (commands_more _ _ next.begun)

pub returns-clause-goes : goal.returns-clause-goes
returns-clause-goes c =
    let next = c.in_ok-size.ensures in
    let more = ap length (commands_more _ _ next.begun) in
    rw (← c.self.view_is, take_rest, next.sized) (record {
      on = λ _. (tt, tt, omega (arith, more));
      keeps = tt;
      rests = λ _. tt;
    })
