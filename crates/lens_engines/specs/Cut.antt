-- A level cut out of a file (ours): the one whose label is an entry, with all the lumps that its format has.
use Rattle.std.specs.Prelude.{◌≡◌, ◌⊎◌, ℕ, ◌+◌, ◌<◌, ◌≤◌, List, [], ◌∷◌, ◌++◌, codes, All, length, map, Result, Ok, Err}
use Rattle.std.specs.Fmt.{decimal}
use Rattle.le_rec.specs.Name.{shown_name}
use Rattle.le_rec.specs.Sink.{SinkState}
use Rattle.level_starts.specs.Format.{IsFormat}
use Rattle.level_starts.specs.LevelFile.{HoldsLumps}
use Rattle.level_starts.specs.Starts.{IsNamed, LevelStartsAt}
use Rattle.level_starts.specs.declared.format.Format.{Format}
use Rattle.level_starts.specs.declared.format.Format.TheVariants as format
use Rattle.line_io.specs.Writes.{Writes}
use Rattle.line_io.specs.declared.fault.IoFault.{IoFault}
use Rattle.wad_dir.specs.Directory.{HasDirectory}
use Rattle.wad_dir.specs.Entries.{names}
use Rattle.wad_dir.specs.Packing.{NamedLump, packed}
use Rattle.wad_dir.specs.Refusal.{RefusesWad}
use Rattle.wad_dir.specs.Slice.{IsLump}
use Rattle.wad_dir.specs.Wad.{IsRead, Wad}
use Rattle.wad_dir.specs.declared.packer.TheConstants.{MAX_BYTES}
use Rattle.lens_texts.specs.FormatLine.{format_text}
use Rattle.lens_texts.specs.declared.unread.Unread.TheVariants as unread
use Rattle.lens_texts.specs.Label.{IsLabelOf, label_text}
use Rattle.lens_engines.specs.Objects.{refusal_text}
use Rattle.lens_engines.specs.declared.cut.CutFault.{CutFault}
use Rattle.lens_engines.specs.declared.cut.CutFault.TheVariants.{NoWad, NoLevel, Level, Memory, Write}
use Rattle.lens_engines.specs.declared.cut.Uncut.{Uncut}
use Rattle.lens_engines.specs.declared.cut.Uncut.TheVariants.{Incomplete, Outside, NoEndMap, TooLarge}
use Rattle.lens_texts.specs.declared.label.LevelLabel.{LevelLabel}
use Rattle.lens_engines.specs.declared.object.FileRefusal.TheVariants as refusal

-- the first entry named ENDMAP behind TEXTMAP is so many behind the label (UDMF specification)
pub record IsEndMap (files : List Wad) (g many : ℕ) : Type 0 where
  pub behind : 2 ≤ many
  pub named : IsNamed (names files) (g + many) (codes "ENDMAP")
  pub first : (m : ℕ) → 2 ≤ m → m < many → ¬ IsNamed (names files) (g + m) (codes "ENDMAP")

-- no entry behind TEXTMAP is named ENDMAP
abbrev pub LacksEndMap : List Wad → ℕ → Type 0
LacksEndMap files g = (m : ℕ) → 2 ≤ m → ¬ IsNamed (names files) (g + m) (codes "ENDMAP")

-- the entry behind BEHAVIOR is named SCRIPTS (unofficial Hexen specs)
abbrev pub HasScripts : List Wad → ℕ → Type 0
HasScripts files g = IsNamed (names files) (g + 12) (codes "SCRIPTS")

-- So many lumps behind its label belong to a level of a format: ten to one of Doom's, with extended nodes too; in Hexen's those to
-- BEHAVIOR, and SCRIPTS where it follows; of a UDMF level all to ENDMAP.
abbrev pub Belong : List Wad → ℕ → Format → ℕ → Type 0
Belong files g format.Udmf many = IsEndMap files g many
Belong files g (format.Incomplete k) many = ⊥
Belong files g format.Hexen many = (HasScripts files g × (many ≡ 12)) ⊎ ((¬ HasScripts files g) × (many ≡ 11))
Belong files g (format.Outside k) many = many ≡ 10
Belong files g (format.Extended tag) many = many ≡ 10
Belong files g format.Doom many = many ≡ 10

-- so many lumps belong to the level at an entry
pub record BelongAt (files : List Wad) (g many : ℕ) : Type 0 where
  pub format : Format
  pub is : IsFormat files g format
  pub belong : Belong files g format many

-- the lumps of so many entries from one on, under their entries' names
pub data AreNamedLumps (files : List Wad) (from : ℕ) : ℕ → List NamedLump → Type 0 where
  none : AreNamedLumps files from 0 []
  more : (many : ℕ) (lumps : List NamedLump) (lump : NamedLump) → AreNamedLumps files from many lumps
      → IsNamed (names files) (from + many) lump.name → IsLump files (from + many) lump.bytes → AreNamedLumps files from (many + 1) (lumps ++ lump ∷ [])

-- the level at an entry, as lumps to pack: its label with no bytes, and those that belong to it
pub record HasLumpsAt (files : List Wad) (g : ℕ) (found : List NamedLump) : Type 0 where
  pub many : ℕ
  pub belong : BelongAt files g many
  pub label : List ℕ
  pub labelled : IsNamed (names files) g label
  pub behind : List NamedLump
  pub named : AreNamedLumps files (g + 1) many behind
  pub are : found ≡ record { name = label; bytes = [] } ∷ behind

-- the file that they are packed into, which holds them and isn't too large
pub record CutsLevel (files : List Wad) (g : ℕ) (text : List ℕ) : Type 0 where
  pub found : List NamedLump
  pub has : HasLumpsAt files g found
  pub is : text ≡ packed found
  pub fits : length text ≤ MAX_BYTES
  pub holds : HoldsLumps text found

-- the file of the level would be too large
pub record IsTooLarge (files : List Wad) (g : ℕ) : Type 0 where
  pub found : List NamedLump
  pub has : HasLumpsAt files g found
  pub large : MAX_BYTES < length (packed found)

-- of the lumps that belong to the level the first that isn't inside its file has a name
pub record IsFirstOutside (files : List Wad) (g : ℕ) (name : List ℕ) : Type 0 where
  pub many : ℕ
  pub belong : BelongAt files g many
  pub place : ℕ
  pub below : place < many
  pub before : (m : ℕ) → m < place → (lump : List ℕ) × IsLump files (g + 1 + m) lump
  pub outside : (lump : List ℕ) → ¬ IsLump files (g + 1 + place) lump
  pub named : IsNamed (names files) (g + 1 + place) name

-- the lump of an entry was added under its name
pub record AddsLump (files : List Wad) (entry : ℕ) (old new : List NamedLump) : Type 0 where
  pub lump : NamedLump
  pub is : new ≡ old ++ lump ∷ []
  pub named : IsNamed (names files) entry lump.name
  pub stands : IsLump files entry lump.bytes

-- the lump of an entry wasn't added: it isn't inside its file; or it is, and there was no memory
abbrev pub LacksLump : List Wad → LevelLabel → ℕ → CutFault → Type 0
LacksLump files label entry (Level other (Outside name)) =
    (other ≡ label) × IsNamed (names files) entry name × ((lump : List ℕ) → ¬ IsLump files entry lump)
LacksLump files label entry Memory = (lump : List ℕ) × IsLump files entry lump
LacksLump files label entry _ = ⊥

-- why the lumps of a level aren't packed: their file would be too large; or it wouldn't, and there was no memory
abbrev pub RefusesPack : List NamedLump → LevelLabel → CutFault → Type 0
RefusesPack found label (Level other TooLarge) = (other ≡ label) × (MAX_BYTES < length (packed found))
RefusesPack found label Memory = length (packed found) ≤ MAX_BYTES
RefusesPack found label _ = ⊥

-- why the level that starts at an entry isn't cut out
abbrev pub RefusesLevel : List Wad → ℕ → Uncut → Type 0
RefusesLevel files g (Incomplete k) = IsFormat files g (format.Incomplete k)
RefusesLevel files g (Outside name) = IsFirstOutside files g name
RefusesLevel files g NoEndMap = IsFormat files g format.Udmf × LacksEndMap files g
RefusesLevel files g TooLarge = IsTooLarge files g

-- a level starts at an entry, and all entries are there that belong to it
pub record IsListedAt (files : List Wad) (g : ℕ) : Type 0 where
  pub starts : LevelStartsAt (names files) g
  pub many : ℕ
  pub belong : BelongAt files g many

-- why no level is cut out of files at an entry: there is none, or not all of it; or there was no memory, with its entries listed
abbrev pub RefusesEntry : List Wad → ℕ → CutFault → Type 0
RefusesEntry files g (NoWad why) = ⊥
RefusesEntry files g (NoLevel entry) = (entry ≡ g) × (¬ LevelStartsAt (names files) g)
RefusesEntry files g (Level label why) = IsLabelOf files g label × RefusesLevel files g why
RefusesEntry files g Memory = IsListedAt files g
RefusesEntry files g Write = ⊥

-- the one file of these bytes
pub record IsFileOf (bytes : List ℕ) (files : List Wad) : Type 0 where
  pub of_bytes : map (λ file. file.bytes) files ≡ bytes ∷ []
  pub read : All IsRead files

-- the level at an entry of the file of these bytes
pub record IsCut (bytes : List ℕ) (g : ℕ) (text : List ℕ) : Type 0 where
  pub files : List Wad
  pub file : IsFileOf bytes files
  pub cuts : CutsLevel files g text

pub record RefusesIn (bytes : List ℕ) (g : ℕ) (fault : CutFault) : Type 0 where
  pub files : List Wad
  pub file : IsFileOf bytes files
  pub refuses : RefusesEntry files g fault

-- why no level is cut out of a file's bytes: they have no directory, or there is none at the entry; or there was no memory, with a directory
abbrev pub RefusesCut : List ℕ → ℕ → CutFault → Type 0
RefusesCut bytes g (NoWad why) = RefusesWad bytes why
RefusesCut bytes g Memory = HasDirectory bytes
RefusesCut bytes g fault = RefusesIn bytes g fault

-- nothing was written
pub record LeavesCut {W : Type 0} (bytes : List ℕ) (g : ℕ) (out out' : W) (result : Result (Unit {0}) CutFault) : Type 0 where
  pub fault : CutFault
  pub ended : result ≡ Err fault
  pub holds : RefusesCut bytes g fault
  pub untouched : out' ≡ out

-- the end of writing
abbrev pub cut_end : Result (Unit {0}) IoFault → Result (Unit {0}) CutFault
cut_end (Ok x) = Ok x
cut_end (Err fault) = Err Write

-- the file of the level was written
pub record WritesCut (bytes : List ℕ) (g : ℕ) (before after : SinkState) (result : Result (Unit {0}) CutFault) : Type 0 where
  pub text : List ℕ
  pub is : IsCut bytes g text
  pub outcome : Result (Unit {0}) IoFault
  pub writes : Writes before after text outcome
  pub ended : result ≡ cut_end outcome

-- one of the two
abbrev pub RunsCut : {W : Type 0} → (W → SinkState) → List ℕ → ℕ → W → W → Result (Unit {0}) CutFault → Type 0
RunsCut state bytes g out out' result = LeavesCut bytes g out out' result ⊎ WritesCut bytes g (state out) (state out') result

-- the lump that isn't there is one of the ten
abbrev pub HasPlace : Uncut → Type 0
HasPlace (Incomplete k) = (1 ≤ k) × (k ≤ 10)
HasPlace _ = Unit {0}

abbrev pub HasLump : CutFault → Type 0
HasLump (Level label why) = HasPlace why
HasLump _ = Unit {0}

-- why a level isn't cut out, in words, with the line's end
abbrev pub uncut_text : Uncut → List ℕ
uncut_text (Incomplete k) = format_text (unread.Incomplete k)
uncut_text (Outside name) = codes "outside: " ++ (shown_name name ++ codes "\n")
uncut_text NoEndMap = codes "udmf: no ENDMAP\n"
uncut_text TooLarge = codes "larger than 2147483647 bytes\n"

-- why none is, with the level's label before it where there is one
abbrev pub cut_fault_text : CutFault → List ℕ
cut_fault_text (NoWad why) = refusal_text (refusal.NoWad why) ++ codes "\n"
cut_fault_text (NoLevel entry) = codes "no level starts at entry " ++ (decimal entry ++ codes "\n")
cut_fault_text (Level label why) = label_text label (codes ": ") ++ uncut_text why
cut_fault_text Memory = []
cut_fault_text Write = []
