-- Demos: a header, commands, a marker and a rest (G_DoPlayDemo and G_CheckDemoStatus of g_game.c).
use Rattle.std.specs.Prelude.{◌≡◌, ◌≢◌, ℕ, ◌+◌, List, ◌∷◌, ◌++◌, length}
use Rattle.demo_lump.specs.Pieces.{AreJoined, NoneBegins}
use Rattle.demo_lump.specs.Header.{IsHeader, RefusesHeader}
use Rattle.demo_lump.specs.Command.{IsCommand}
use Rattle.demo_lump.specs.declared.command.Command.{Command}
use Rattle.demo_lump.specs.declared.header.Header.{Header}
use Rattle.demo_lump.specs.declared.fault.DemoFault.{DemoFault}
use Rattle.demo_lump.specs.declared.fault.DemoFault.TheVariants.{NoMarker}

-- bytes that are commands, one after another
abbrev pub AreCommands : ℕ → List ℕ → List Command → Type 0
AreCommands version = AreJoined (IsCommand version)

-- bytes that are a header, then commands, then the marker, then others
pub record IsDemo (bytes : List ℕ) (header : Header) (commands : List Command)
    (rest : List ℕ) : Type 0 where
  pub front : List ℕ
  pub body : List ℕ
  pub joined : bytes ≡ front ++ (body ++ 128 ∷ rest)
  pub begins : IsHeader front header
  pub follow : AreCommands header.version body commands

-- bytes that are a header, then the most whole commands, and then no marker: the
-- place where that should stand
pub record IsCutAt (bytes : List ℕ) (place : ℕ) : Type 0 where
  pub header : Header
  pub commands : List Command
  pub front : List ℕ
  pub body : List ℕ
  pub rest : List ℕ
  pub joined : bytes ≡ front ++ (body ++ rest)
  pub begins : IsHeader front header
  pub follow : AreCommands header.version body commands
  pub most : NoneBegins (IsCommand header.version) rest
  pub unmarked : (more : List ℕ) → rest ≢ 128 ∷ more
  pub placed : place ≡ length front + length body

-- why bytes are no demo: the first reason that holds
abbrev pub RefusesDemo : List ℕ → DemoFault → Type 0
RefusesDemo bytes (NoMarker place) = IsCutAt bytes place
RefusesDemo bytes fault = RefusesHeader bytes fault

-- a demo as it was read: the header, the commands and the number of bytes after the marker
pub record Demo : Type 0 where
  pub header : Header
  pub commands : List Command
  pub after : ℕ

-- it is the demo that the bytes are
pub record IsRead (bytes : List ℕ) (demo : Demo) : Type 0 where
  pub rest : List ℕ
  pub reads : IsDemo bytes demo.header demo.commands rest
  pub counted : demo.after ≡ length rest
