-- The command `lumps`: its text (ours), and what its run does.
use Rattle.std.specs.Prelude.{◌≡◌, ℕ, ◌+◌, ℤ, List, [], ◌∷◌, ◌++◌, length, codes, Result}
use Rattle.std.specs.Fmt.{decimal, signed_decimal}
use Rattle.le_rec.specs.Name.{name_of, shown_name}
use Rattle.le_rec.specs.declared.records.Entry.{Entry}
use Rattle.le_rec.specs.Sink.{SinkState}
use Rattle.line_io.specs.Writes.{Writes}
use Rattle.wad_dir.specs.Wad.{Wad}
use Rattle.wad_dir.specs.Header.{magic_of}
use Rattle.wad_dir.specs.declared.header.Kind.{Kind}
use Rattle.look_engines.specs.Opening.{AreRead, RefusesFiles}
use Rattle.look_engines.specs.Runs.{Runs}
use Rattle.look_engines.specs.declared.fault.RunFault.{RunFault}

-- `<g> <filepos> <size> <name>`
unfoldable pub entry_line : ℕ → ℤ → ℤ → List ℕ → List ℕ
entry_line g filepos size name =
    decimal g ++ (codes " " ++ (signed_decimal filepos ++ (codes " " ++ (signed_decimal size ++ (codes " " ++ (shown_name name ++ (10 ∷ [])))))))

-- the lines of entries, numbered on from g
abbrev pub entries_text : ℕ → List Entry → List ℕ
entries_text g [] = []
entries_text g (e ∷ entries) = entry_line g e.filepos e.size (name_of e.name) ++ entries_text (g + 1) entries

-- `file <n> <IWAD or PWAD> <count>`
unfoldable pub file_line : ℕ → Kind → ℕ → List ℕ
file_line n kind count = codes "file " ++ (decimal n ++ (codes " " ++ (magic_of kind ++ (codes " " ++ (decimal count ++ (10 ∷ []))))))

-- the text of file n, whose entries are numbered on from g
abbrev pub file_text : ℕ → ℕ → Wad → List ℕ
file_text n g file = file_line n file.kind (length file.entries) ++ entries_text g file.entries

abbrev pub files_text : ℕ → ℕ → List Wad → List ℕ
files_text n g [] = []
files_text n g (file ∷ files) = file_text n g file ++ files_text (n + 1) (g + length file.entries) files

-- the text of `lumps`: files are numbered from 1, and entries from 0 through all files
abbrev pub lumps_text : List Wad → List ℕ
lumps_text files = files_text 1 0 files

-- a run over files of these bytes and a sink, by the sink's state
abbrev pub RunsLumps : {W : Type 0} → (W → SinkState) → List (List ℕ) → W → W → Result (Unit {0}) RunFault → Type 0
RunsLumps state bytes out out' result =
    Runs (RefusesFiles bytes) (out' ≡ out) (AreRead bytes) (λ files outcome. Writes (state out) (state out') (lumps_text files) outcome) result
