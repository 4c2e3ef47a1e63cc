-- The demo of a listing (ours).
use Rattle.std.specs.Prelude.{◌≡◌, ◌≢◌, ◌⊎◌, ℕ, ◌+◌, ◌%◌, ◌^◌, ◌<◌, true, false, if◌then◌else◌, All, Contains, List, [], ◌∷◌, ◌++◌, codes, length, nat_eq}
use Rattle.demo_engines.specs.declared.assembly.AssembleFault.{AssembleFault}
use Rattle.demo_engines.specs.declared.assembly.AssembleFault.TheVariants.{Line, Memory}
use Rattle.demo_engines.specs.declared.assembly.Wanted.{Wanted}
use Rattle.demo_engines.specs.declared.assembly.Wanted.TheVariants as wanted
use Rattle.std.specs.List.{AllByRecursion, starts_with}
use Rattle.demo_lump.specs.declared.command.Command.{Command}
use Rattle.demo_lump.specs.Demo.{Demo, IsDemo, IsRead}
use Rattle.le_rec.specs.Bytes.{AreBytes}
use Rattle.demo_engines.specs.Parts.{FitsCommand, FitsHeader}
use Rattle.demo_lump.specs.Header.{players_in}
use Rattle.demo_lump.specs.declared.header.Header.{Header}
use Rattle.look_engines.specs.Listing.{header_line, listing, ticcmd_line, ticcmds_text, totals_line}
use Rattle.look_engines.specs.Turn.{PlayerTurn, player_of, tic_of}

-- The text is the listing of a demo. How many bytes come after the marker is a number of 64 bits.
pub record IsListingOf (text : List ℕ) (demo : Demo) : Type 0 where
  pub bytes : List ℕ
  pub are : AreBytes bytes
  pub read : IsRead bytes demo
  pub few : demo.after < 2 ^ 64
  pub printed : text ≡ listing demo

-- the bytes are the header, the commands and the marker of the demo with this listing
pub record IsAssembled (text bytes : List ℕ) : Type 0 where
  pub demo : Demo
  pub is : IsListingOf text demo
  pub written : IsDemo bytes demo.header demo.commands []

-- a listing begins with the text
pub record BeginsListing (text : List ℕ) : Type 0 where
  pub demo : Demo
  pub more : List ℕ
  pub is : IsListingOf (text ++ more) demo

-- a line, ended by byte 10
pub record IsLine (text : List ℕ) : Type 0 where
  pub content : List ℕ
  pub unbroken : All (λ byte. byte ≢ 10) content
  pub is : text ≡ content ++ 10 ∷ []

-- so many lines
pub data AreLines : ℕ → List ℕ → Type 0 where
  none : AreLines 0 []
  more : (n : ℕ) (before line : List ℕ) → AreLines n before → IsLine line → AreLines (n + 1) (before ++ line)

-- The number of the first line at which a text stops being a listing. The lines before it begin a listing; with it they begin none, or no ended line
-- follows them.
pub record IsWrongLine (text : List ℕ) (number : ℕ) : Type 0 where
  pub none : (demo : Demo) → ¬ IsListingOf text demo
  pub count : ℕ
  pub before : List ℕ
  pub rest : List ℕ
  pub splits : text ≡ before ++ rest
  pub lines : AreLines count before
  pub counted : number ≡ count + 1
  pub begins : BeginsListing before
  pub wrong : (line more : List ℕ) → IsLine line → rest ≡ line ++ more → ¬ BeginsListing (before ++ line)

-- its first line is that of a header
pub record HasHeaderLine (text : List ℕ) : Type 0 where
  pub header : Header
  pub fits : FitsHeader header
  pub rest : List ℕ
  pub splits : text ≡ header_line header ++ rest

-- a text that has bytes, and no end of a line
abbrev pub LacksEnd : List ℕ → Type 0
LacksEnd text = (0 < length text) × ¬ Contains text 10

-- What must follow lines that begin a listing, before `rest`: the end of its line; a header; nothing, as they are a whole listing; the totals of their
-- commands, if `rest` begins so; else a command of the tic and the player whose turn is next, or those totals.
abbrev pub IsWanted : List ℕ → List ℕ → Wanted → Type 0
IsWanted before rest wanted.LineEnd = LacksEnd rest
IsWanted before rest wanted.Header = before ≡ []
IsWanted before rest wanted.Nothing = (demo : Demo) × IsListingOf before demo
IsWanted before rest (wanted.Totals tics odd) =
    (starts_with nat_eq rest (codes "tics") ≡ true) × (demo : Demo) × IsListingOf (before ++ totals_line tics odd 0) demo
IsWanted before rest (wanted.TicCommand tic player) =
    (starts_with nat_eq rest (codes "tics") ≡ false) × (command : Command) × BeginsListing (before ++ ticcmd_line tic player command)

-- a text is no listing from a line on, and what must follow there; the end of that line comes first
pub record RefusesListing (text : List ℕ) (number : ℕ) (found : Wanted) : Type 0 where
  pub line : IsWrongLine text number
  pub is : IsWanted line.before line.rest found
  pub first : LacksEnd line.rest → found ≡ wanted.LineEnd

-- what must follow a header and commands at this turn
abbrev pub wanted_behind : List ℕ → PlayerTurn → Wanted
wanted_behind text turn =
    if starts_with nat_eq text (codes "tics")
    then wanted.Totals (tic_of turn.players turn.index) (turn.index % players_in turn.players)
    else wanted.TicCommand (tic_of turn.players turn.index) (player_of turn.players turn.index)

-- what must follow where it is else `other`: an end comes first
abbrev pub WantsFirst : List ℕ → Wanted → Wanted → Type 0
WantsFirst text other found = (LacksEnd text × (found ≡ wanted.LineEnd)) ⊎ ((¬ LacksEnd text) × (found ≡ other))

-- why no demo can be assembled from a text: a line of it is wrong, or there was no memory for what follows its header
abbrev pub WhyNone : List ℕ → AssembleFault → Type 0
WhyNone text (Line number found) = RefusesListing text number found
WhyNone text Memory = HasHeaderLine text

-- all lines of commands at the front of a text: these commands, then it is this turn, and this text is left
pub record IsTakenFrom (version : ℕ) (players text : List ℕ) (commands : List Command) (turn : PlayerTurn) (rest : List ℕ) : Type 0 where
  pub splits : text ≡ ticcmds_text players 0 commands ++ rest
  pub turns : turn ≡ record { players = players; index = length commands }
  pub fit : AllByRecursion (FitsCommand version) commands
  pub few : length commands < 2 ^ 62
  pub none : (c : Command) (more : List ℕ) → FitsCommand version c → rest ≢ ticcmd_line (tic_of players (length commands)) (player_of players (length commands)) c ++ more
