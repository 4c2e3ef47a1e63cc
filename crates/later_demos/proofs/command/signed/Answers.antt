use Rattle.std.proofs.Common.{arith}
use Rattle.std.proofs.lemmas.Bool.Decides.{nat_tests}
use Rattle.std.proofs.lemmas.Int.{ints}
use Rattle.demo_lump.specs.Command.{signed8}
use Rattle.later_demos.proofs.command.signed.Goals as goal

pub returns : goal.returns
unfolding signed8
returns c = grind (arith, ints, nat_tests)
