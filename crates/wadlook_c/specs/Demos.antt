-- What is told of demos (ours).
use Rattle.std.specs.Prelude.{◌≡◌, ℕ, ◌<◌, List, length, slice_index, Some, IsSomeAnd}
use Rattle.std.specs.List.{slice_get}
use Rattle.demo_lump.specs.Demo.{Demo}
use Rattle.demo_lump.specs.Header.{players_in}
use Rattle.demo_lump.specs.declared.command.Command.{Command}
use Rattle.wadlook_c.specs.declared.demo.WadlookCommand.{WadlookCommand}
use Rattle.wadlook_c.specs.declared.demo.WadlookDemo.{WadlookDemo}

-- what is told of a demo beside its commands
abbrev pub info_of : Demo → WadlookDemo
info_of demo = record {
  commands = length demo.commands;
  after = demo.after;
  players = players_in demo.header.players;
  version = demo.header.version;
  skill = demo.header.skill;
  episode = demo.header.episode;
  map = demo.header.map;
  deathmatch = demo.header.deathmatch;
  respawn = demo.header.respawn;
  fast = demo.header.fast;
  no_monsters = demo.header.no_monsters;
  viewpoint = demo.header.viewpoint;
  player1 = slice_index demo.header.players 0;
  player2 = slice_index demo.header.players 1;
  player3 = slice_index demo.header.players 2;
  player4 = slice_index demo.header.players 3;
}

abbrev pub command_of : Command → WadlookCommand
command_of command = record { turn = command.turn; forward = command.forward; side = command.side; buttons = command.buttons }

-- as many commands as there is room for stand in front, in order
abbrev pub TellsCommands : List Command → List WadlookCommand → Type 0
TellsCommands commands told =
    (k : ℕ) → k < length commands → k < length told
    → IsSomeAnd (slice_get commands k) (λ command. slice_get told k ≡ Some (command_of command))
