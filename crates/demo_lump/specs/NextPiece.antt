-- The pieces of a demo, one after another: the header, the commands and the marker (ours).
use Rattle.std.specs.Prelude.{◌≡◌, ◌≢◌, ℕ, ◌+◌, ◌<◌, ◌≤◌, Option, Some, None, List, [], ◌∷◌, ◌++◌, length, slice_index}
use Rattle.demo_lump.specs.Pieces.{NoneBegins}
use Rattle.demo_lump.specs.Header.{IsHeader, IsVersion, RefusesHeader}
use Rattle.demo_lump.specs.Command.{IsCommand, command_size}
use Rattle.demo_lump.specs.declared.command.Command.{Command}
use Rattle.demo_lump.specs.declared.header.Header.{Header}
use Rattle.demo_lump.specs.declared.fault.DemoFault.{DemoFault}
use Rattle.demo_lump.specs.declared.fault.DemoFault.TheVariants.{NoMarker}

-- A piece that the bytes left may begin with, why they begin with none, and which bytes a reading
-- of it may take: no more than it still needs.
pub record Piece (A : Type 0) : Type 1 where
  pub is : List ℕ → A → Type 0
  pub refuses : List ℕ → DemoFault → Type 0
  pub needs : List ℕ → Type 0

-- the header: its first byte, and where that is a version the 12 more
abbrev pub header_piece : Piece Header
header_piece = record {
  is = IsHeader;
  refuses = RefusesHeader;
  needs = λ read. (1 < length read → IsVersion (slice_index read 0)) × (length read ≤ 13);
}

-- behind the header one command, or the marker
abbrev pub IsNext : ℕ → List ℕ → Option Command → Type 0
IsNext version bytes (Some command) = IsCommand version bytes command
IsNext version bytes None = bytes ≡ 128 ∷ []

-- or neither, where `taken` bytes were taken before
abbrev pub RefusesNext : ℕ → ℕ → List ℕ → DemoFault → Type 0
RefusesNext version taken bytes (NoMarker place) =
    (place ≡ taken) × NoneBegins (IsNext version) bytes
RefusesNext version taken bytes _ = ⊥

-- its first byte, and where that isn't the marker the 3 or 4 more
abbrev pub next_piece : ℕ → ℕ → Piece (Option Command)
next_piece version taken = record {
  is = IsNext version;
  refuses = RefusesNext version taken;
  needs =
      λ read. (1 < length read → slice_index read 0 ≢ 128) × (length read ≤ command_size version);
}

-- the bytes begin with that piece, and then come others
abbrev pub Begins : {A : Type 0} → Piece A → List ℕ → A → List ℕ → Type 0
Begins piece bytes x rest = (front : List ℕ) × (bytes ≡ front ++ rest) × piece.is front x

-- where `taken` bytes were taken: the bytes left begin with these commands, piece by
-- piece, and then with the marker
abbrev pub AreNext : ℕ → ℕ → List ℕ → List Command → List ℕ → Type 0
AreNext version taken bytes [] rest = Begins (next_piece version taken) bytes None rest
AreNext version taken bytes (command ∷ commands) rest =
    (left : List ℕ) × Begins (next_piece version taken) bytes (Some command) left
    × AreNext version (taken + command_size version) left commands rest

-- the same, and then with no further piece
abbrev pub AreNextUntil : ℕ → ℕ → List ℕ → List Command → DemoFault → Type 0
AreNextUntil version taken bytes [] fault = RefusesNext version taken bytes fault
AreNextUntil version taken bytes (command ∷ commands) fault =
    (left : List ℕ) × Begins (next_piece version taken) bytes (Some command) left
    × AreNextUntil version (taken + command_size version) left commands fault
