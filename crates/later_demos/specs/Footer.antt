-- What engines leave behind the marker: which port recorded the demo, and by which words of its command line (recorded demos: dsda-doom 0.25.6
-- writes a WAD file with the lumps PORTNAME and CMDLINE, Woof 10.5.1 lines of text).
use Rattle.std.specs.Prelude.{◌≡◌, ℕ, ◌-◌, ◌==◌, not, nat_eq, if◌then◌else◌, Option, Some, None, List, [], ◌∷◌, codes, length, take, drop, reverse, slice_index}
use Rattle.std.specs.List.{before_first, position_or_len, slice_get, starts_with}
use Rattle.le_rec.specs.Name.{query_of}
use Rattle.le_rec.specs.declared.records.Entry.{Entry}
use Rattle.wad_dir.specs.Directory.{HasDirectory}
use Rattle.wad_dir.specs.Entries.{names_in}
use Rattle.wad_dir.specs.Slice.{IsSlice}
use Rattle.wad_dir.specs.Wad.{IsRead, Wad}
use Rattle.wad_dir.specs.Winner.{Wins}

-- what a footer tells
pub record Footer : Type 0 where
  pub port : Option (List ℕ)
  pub words : Option (List ℕ)

-- how many bytes 32 stand at the end of a text, and the text without them
abbrev pub spaces_behind : List ℕ → ℕ
spaces_behind text = position_or_len (λ b. not (b == 32)) (reverse text)

abbrev pub trimmed : List ℕ → List ℕ
trimmed text = take (length text - spaces_behind text) text

-- the text of a lump: one byte 10 at its end goes, and then the bytes 32
abbrev pub without_newline : List ℕ → List ℕ
without_newline lump =
    if slice_index lump (length lump - 1) == 10 then take (length lump - 1) lump else lump

abbrev pub text_of : List ℕ → List ℕ
text_of lump = trimmed (without_newline lump)

-- the entry that a look-up of a name gives
pub record IsWinner (file : Wad) (name : List ℕ) (entry : Entry) : Type 0 where
  pub at : ℕ
  pub wins : Wins (names_in file) name at
  pub listed : slice_get file.entries at ≡ Some entry

-- and its lump, where it is inside the file
pub record IsNamed (file : Wad) (name lump : List ℕ) : Type 0 where
  pub entry : Entry
  pub winner : IsWinner file name entry
  pub slice : IsSlice file.bytes entry lump

-- the text of the lump of a name, or none
abbrev pub HoldsText : Wad → List ℕ → Option (List ℕ) → Type 0
HoldsText file name None = (lump : List ℕ) → ¬ IsNamed file name lump
HoldsText file name (Some text) = (lump : List ℕ) × IsNamed file name lump × (text_of lump ≡ text)

-- bytes that are a WAD file, with offsets from the first of them
pub record IsWadFooter (rest : List ℕ) (footer : Footer) : Type 0 where
  pub file : Wad
  pub of_rest : file.bytes ≡ rest
  pub read : IsRead file
  pub port : HoldsText file (query_of (codes "PORTNAME")) footer.port
  pub words : HoldsText file (query_of (codes "CMDLINE")) footer.words

-- where the first line of a text ends, and the line behind that end
abbrev pub line_end : List ℕ → ℕ
line_end text = position_or_len (λ b. b == 10) text

abbrev pub line_behind : List ℕ → Option (List ℕ)
line_behind [] = None
line_behind (newline ∷ text) = Some (trimmed (take (line_end text) text))

-- what a text tells: the first line is the port, the second has the words
abbrev pub lines_footer : List ℕ → Footer
lines_footer text =
    if starts_with nat_eq text (codes "Woof ")
    then record { port = Some (take (line_end text) text); words = line_behind (drop (line_end text) text) }
    else record { port = None; words = None }

-- what bytes behind a marker tell
pub data IsFooter (rest : List ℕ) : Footer → Type 0 where
  of_wad : (footer : Footer) → IsWadFooter rest footer → IsFooter rest footer
  of_text : ¬ HasDirectory rest → IsFooter rest (lines_footer rest)
