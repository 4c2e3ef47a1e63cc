use Rattle.demo_lump.proofs.CommandLemmas.{AreCommands-last}
use Rattle.demo_lump.proofs.PieceLemmas.{stops_behind}
use Rattle.demo_lump.proofs.ReadingLemmas.{command_size-some}
use Rattle.demo_lump.proofs.laws.commands_go_on.Goals as goal

pub returns-clause-sizes : goal.returns-clause-sizes
returns-clause-sizes c = command_size-some

pub returns-clause-more : goal.returns-clause-more
returns-clause-more c = AreCommands-last

pub returns-clause-stopped : goal.returns-clause-stopped
returns-clause-stopped c = stops_behind
