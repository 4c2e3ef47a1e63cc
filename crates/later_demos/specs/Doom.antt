-- Demos of Doom 1.9, versions 109 to 111, as they are read here (ours).
use Rattle.std.specs.Prelude.{◌==◌, ℕ, Option, None, List, length, map}
use Rattle.demo_lump.specs.declared.command.Command.{Command}
use Rattle.demo_lump.specs.declared.fault.DemoFault.{DemoFault}
use Rattle.demo_lump.specs.declared.fault.DemoFault.TheVariants as doom
use Rattle.later_demos.specs.Demo.{Demo}
use Rattle.later_demos.specs.declared.command.LaterCommand.{LaterCommand}
use Rattle.later_demos.specs.declared.fault.LaterFault.{LaterFault}
use Rattle.later_demos.specs.declared.fault.LaterFault.TheVariants as later
use Rattle.later_demos.specs.declared.layout.Engine.TheVariants.{Doom}
use Rattle.later_demos.specs.declared.layout.Layout.{Layout}

-- what the demos of a version have
abbrev pub doom_layout : ℕ → Layout
doom_layout version = record { engine = Doom; size = 13; players = 9; long = version == 111 }

-- a command without actions
abbrev pub bare : Command → LaterCommand
bare command = record { ticcmd = command; actions = None }

-- a demo of a version, with no wrapper
abbrev pub bare_demo : ℕ → List ℕ → List Command → List ℕ → Demo
bare_demo version header commands rest = record {
  wrapper = None;
  layout = doom_layout version;
  header = header;
  key_frame = None;
  commands = map bare commands;
  rest = rest;
}

-- why so many bytes are no demo
abbrev pub doom_fault : ℕ → DemoFault → LaterFault
doom_fault long doom.Empty = later.Empty
doom_fault long (doom.Version version) = later.Version version
doom_fault long doom.ShortHeader = later.Short long 13
doom_fault long doom.NoPlayers = later.NoPlayers
doom_fault long (doom.NoMarker place) = later.NoMarker place
