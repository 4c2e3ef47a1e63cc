use Rattle.std.proofs.Common.{arith}
use Rattle.demo_engines.proofs.TakingLemmas.{rest_shorter, takes_all, takes_more}
use Rattle.demo_engines.proofs.assembly.take_commands.Goals as goal

pub loop-command-smaller : goal.loop-command-smaller
loop-command-smaller c = rest_shorter _ _ c.in-Some.command c.loop-command.rest.now c.in-Some.behind.now c.in-Some.ensures.some

pub loop-command-preserved : goal.loop-command-preserved
loop-command-preserved c =
    rw (c.in_ok-push.ensures.items, c.step.ensures)
    (takes_more c.args.version c.args.players c.args.text.now c.loop-command.commands.items c.loop-command.turn c.loop-command.rest.now c.in-Some.behind.now c.in-Some.command c.loop-command.invariant
    c.in-Some.ensures.some c.in-Some.ensures.fits)

pub returns : goal.returns
returns c =
    takes_all c.args.version c.args.players c.args.text.now c.loop-command.commands.items c.loop-command.turn c.loop-command.rest.now c.loop-command.invariant (omega (arith, c.loop-command.invariant.few))
    c.in_default.ensures.none
