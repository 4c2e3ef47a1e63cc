use Rattle.std.proofs.Common.{refl}
use Rattle.demo_lump.proofs.CommandLemmas.{length-commands_of}
use Rattle.demo_lump.proofs.demo.Demo.full_tics.Goals as goal

pub returns : goal.returns
returns c = rw (← c.self.view_is, length-commands_of, c.count_players.ensures) refl
