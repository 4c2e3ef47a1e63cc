-- Laws over the definitions alone (ours).
use Rattle.std.specs.Prelude.{◌≡◌, ◌≢◌, ◌↔◌, ◌⊎◌, ℕ, ◌+◌, ◌<◌, ◌≤◌, List, [], ◌∷◌, ◌++◌, length, slice_index}
use Rattle.demo_lump.specs.Pieces.{AreJoined}
use Rattle.demo_lump.specs.Header.{IsHeader, RefusesHeader, header_of, players_in}
use Rattle.demo_lump.specs.Command.{IsCommand, command_size, short_command_of}
use Rattle.demo_lump.specs.Demo.{AreCommands, Demo, IsDemo, IsRead, RefusesDemo}
use Rattle.demo_lump.specs.NextPiece.{AreNext, AreNextUntil, Begins, RefusesNext, header_piece}
use Rattle.demo_lump.specs.declared.command.Command.{Command}
use Rattle.demo_lump.specs.declared.header.Header.{Header}
use Rattle.demo_lump.specs.declared.fault.DemoFault.{DemoFault}

-- bytes have at most one reading as a demo
abbrev pub OneReading : Type 0
OneReading =
    (bytes : List ℕ) (header other : Header) (commands others : List Command) (rest more : List ℕ)
    → IsDemo bytes header commands rest → IsDemo bytes other others more
    → (header ≡ other) × (commands ≡ others) × (rest ≡ more)

-- they are read as a demo or refused
abbrev pub ReadOrRefused : Type 0
ReadOrRefused =
    (bytes : List ℕ)
    → ((demo : Demo) × IsRead bytes demo) ⊎ ((fault : DemoFault) × RefusesDemo bytes fault)

-- never both
abbrev pub NeverBoth : Type 0
NeverBoth =
    (bytes : List ℕ) (demo : Demo) (fault : DemoFault) → IsRead bytes demo
    → ¬ RefusesDemo bytes fault

-- and one fault at most refuses them
abbrev pub OneRefusal : Type 0
OneRefusal =
    (bytes : List ℕ) (fault other : DemoFault) → RefusesDemo bytes fault → RefusesDemo bytes other
    → fault ≡ other

-- pieces joined are the demo: a header, commands and the marker
abbrev pub PiecesAreDemo : Type 0
PiecesAreDemo =
    (bytes : List ℕ) (header : Header) (commands : List Command) (rest : List ℕ)
    → IsDemo bytes header commands rest
    ↔ ((left : List ℕ) × Begins header_piece bytes header left
    × AreNext header.version 13 left commands rest)

-- and where one is refused, so is the demo, with the same fault
abbrev pub PiecesAreRefused : Type 0
PiecesAreRefused =
    (bytes : List ℕ) (fault : DemoFault)
    → RefusesDemo bytes fault
    ↔ (RefusesHeader bytes fault
    ⊎ ((header : Header) × (commands : List Command) × (left : List ℕ)
    × Begins header_piece bytes header left × AreNextUntil header.version 13 left commands fault))

-- a command has 4 or 5 bytes
abbrev pub CommandSizes : Type 0
CommandSizes = (version : ℕ) → (4 ≤ command_size version) × (command_size version ≤ 5)

-- commands and one more are commands
abbrev pub OneMoreCommand : Type 0
OneMoreCommand =
    (version : ℕ) (body front : List ℕ) (commands : List Command) (command : Command)
    → AreCommands version body commands → IsCommand version front command
    → AreCommands version (body ++ front) (commands ++ command ∷ [])

-- what refuses the next piece behind a header and commands refuses the demo
abbrev pub StopsBehind : Type 0
StopsBehind =
    (header : Header) (commands : List Command) (front body rest : List ℕ) (place : ℕ)
    (fault : DemoFault) → IsHeader front header → AreCommands header.version body commands
    → place ≡ length front + length body → RefusesNext header.version place rest fault
    → RefusesDemo (front ++ (body ++ rest)) fault

-- four bytes that are a command of version 109
pub record IsCommand109 (bytes : List ℕ) (command : Command) : Type 0 where
  pub long : length bytes ≡ 4
  pub unmarked : slice_index bytes 0 ≢ 128
  pub reads : short_command_of bytes ≡ command

-- a demo, were 109 the one version
pub record IsDemo109 (bytes : List ℕ) (header : Header) (commands : List Command)
    (rest : List ℕ) : Type 0 where
  pub front : List ℕ
  pub body : List ℕ
  pub joined : bytes ≡ front ++ (body ++ 128 ∷ rest)
  pub long : length front ≡ 13
  pub reads : header_of front ≡ header
  pub version : header.version ≡ 109
  pub players : 0 < players_in header.players
  pub follow : AreJoined IsCommand109 body commands

-- what is accepted under 109 has the reading that it would have then
abbrev pub ReadsAs109 : Type 0
ReadsAs109 =
    (bytes : List ℕ) (header : Header) (commands : List Command) (rest : List ℕ)
    → (IsDemo bytes header commands rest × (header.version ≡ 109))
    ↔ IsDemo109 bytes header commands rest
