use Rattle.std.proofs.Common.{length}
use Rattle.demo_engines.proofs.TakingLemmas.{Taking}
use Rattle.demo_engines.proofs.assembly.take_commands.Given as goal

abbrev pub invariant-loop-command : goal.invariant-loop-command
invariant-loop-command l = Taking l.version l.fn.players l.text l.commands.items l.turn l.rest

abbrev pub decreases-loop-command : goal.decreases-loop-command
decreases-loop-command l = length l.rest
