-- What goes from some files onto the page and into the folder (ours).
use Rattle.std.specs.Prelude.{◌≡◌, ◌⊎◌, ℕ, suc, ◌≤◌, List, [], ◌∷◌, ◌++◌, length, Option, Some, take}
use Rattle.std.specs.Io.KnownBytes.{Keeps}
use Rattle.atlas_page.specs.Levels.{AreRowsBelow}
use Rattle.atlas_page.specs.declared.levels.Origin.{Origin}
use Rattle.atlas_page.specs.declared.refused.RefusedFile.{RefusedFile}
use Rattle.atlas_page.specs.declared.row.Row.{Row}
use Rattle.wad_dir.specs.Entries.{names}
use Rattle.wad_dir.specs.Wad.{IsRead, Wad}
use Rattle.le_rec.specs.Sink.{SinkState}
use Rattle.lens_reports.specs.Run.{RefusesFile, TellsWord, WritesRefusal, no_tally, tally_with}
use Rattle.lens_reports.specs.declared.tell.ReportSum.{ReportSum}
use Rattle.lens_reports.specs.declared.tell.ReportKind.TheVariants.{Survey}
use Rattle.line_io.specs.declared.input.TheConstants.{MAX_READ}
use Rattle.lens_reports.specs.Files.{at_path}
use Rattle.lens_commands.specs.Folder.{Kept, with_files}
use Rattle.lens_commands.specs.AtlasPictures.{ShowsRows}
use Rattle.lens_commands.specs.declared.atlas.gather.Gathered.{Gathered}
use Rattle.lens_commands.specs.declared.atlas.job.AtlasRequest.{AtlasRequest}
use Rattle.map_picture.specs.declared.draw.View.{View}

-- the file of a number and a path
pub record IsOrigin (asked : AtlasRequest) (number : ℕ) (path : List ℕ) (origin : Origin) : Type 0 where
  pub numbered : origin.file ≡ number
  pub of_path : origin.path.now ≡ path
  pub judged : origin.judging ≡ asked.judging
  pub cut_at : origin.most ≡ asked.most

-- all levels of these bytes
pub record AreRowsOf (origin : Origin) (bytes : List ℕ) (file : Wad) (rows : List Row) : Type 0 where
  pub of_bytes : file.bytes ≡ bytes
  pub read : IsRead file
  pub are : AreRowsBelow origin (file ∷ []) (length (names (file ∷ []))) rows

-- the rows of a file's levels and their pictures, from the bytes that the survey saw
pub record GathersFile (held : Option (List ℕ)) (drawn : View) (origin : Origin) (rows : List Row) (refused : List RefusedFile) (shown : List Kept)
    (out out' errors errors' : SinkState) (tally : ReportSum) : Type 0 where
  pub bytes : List ℕ
  pub holds : Keeps held (Some bytes)
  pub few : length bytes ≤ MAX_READ
  pub told : TellsWord Survey origin.path.now bytes origin.judging out out' errors errors' tally
  pub file : Wad
  pub are : AreRowsOf origin bytes file rows
  pub pictures : ShowsRows drawn origin.judging.reading (file ∷ []) rows shown
  pub none : refused ≡ []

-- a refused file has no rows and no pictures, and the survey refuses it for the same reason
pub record GathersRefused (held : Option (List ℕ)) (origin : Origin) (rows : List Row) (refused : List RefusedFile) (shown : List Kept)
    (out out' errors errors' : SinkState) (tally : ReportSum) : Type 0 where
  pub one : RefusedFile
  pub of_path : one.path.now ≡ origin.path.now
  pub why : RefusesFile (at_path held) Survey one.why
  pub told : WritesRefusal Survey origin.path.now one.why out out' errors errors' tally
  pub is : refused ≡ one ∷ []
  pub rowless : rows ≡ []
  pub none : shown ≡ []

-- a file, refused or not
abbrev pub GathersPath : Option (List ℕ) → View → Origin → List Row → List RefusedFile → List Kept → SinkState → SinkState → SinkState → SinkState → ReportSum → Type 0
GathersPath held drawn origin rows refused shown out out' errors errors' tally =
    GathersFile held drawn origin rows refused shown out out' errors errors' tally
    ⊎ GathersRefused held origin rows refused shown out out' errors errors' tally

-- the rows, the refused files and the pictures of some paths, one after another, and what their survey wrote
pub data Gathers (held : List ℕ → Option (List ℕ)) (asked : AtlasRequest) (out errors : SinkState)
    : List (List ℕ) → List Row → List RefusedFile → List Kept → SinkState → SinkState → ReportSum → Type 0 where
  of_none : Gathers held asked out errors [] [] [] [] out errors no_tally
  with_path : (paths : List (List ℕ)) (rows : List Row) (refused : List RefusedFile) (shown : List Kept) (out' errors' : SinkState) (sum : ReportSum)
      (path : List ℕ) (origin : Origin) (more : List Row) (others : List RefusedFile) (pictures : List Kept) (out'' errors'' : SinkState) (tally : ReportSum)
      → Gathers held asked out errors paths rows refused shown out' errors' sum → IsOrigin asked (suc (length paths)) path origin
      → GathersPath (held path) asked.drawn origin more others pictures out' out'' errors' errors'' tally
      → Gathers held asked out errors (paths ++ path ∷ []) (rows ++ more) (refused ++ others) (shown ++ pictures) out'' errors'' (tally_with sum tally)

-- the pictures of the first rows of a file
pub record ShowsPart (held : Option (List ℕ)) (drawn : View) (origin : Origin) (shown : List Kept) : Type 0 where
  pub bytes : List ℕ
  pub holds : Keeps held (Some bytes)
  pub file : Wad
  pub rows : List Row
  pub are : AreRowsOf origin bytes file rows
  pub count : ℕ
  pub pictures : ShowsRows drawn origin.judging.reading (file ∷ []) (take count rows) shown

abbrev pub ShowsFront : Option (List ℕ) → View → Origin → List Kept → Type 0
ShowsFront held drawn origin shown = (shown ≡ []) ⊎ ShowsPart held drawn origin shown

-- a path was added to what was gathered, to the folder and to the survey
pub record AddsPath (held : Option (List ℕ)) (drawn : View) (origin : Origin) (old new : Gathered) (files files' : Option (List Kept))
    (out out' errors errors' : SinkState) (tally : ReportSum) : Type 0 where
  pub more : List Row
  pub others : List RefusedFile
  pub pictures : List Kept
  pub exact : GathersPath held drawn origin more others pictures out out' errors errors' tally
  pub rows : new.rows.items ≡ old.rows.items ++ more
  pub refused : new.refused.items ≡ old.refused.items ++ others
  pub found : new.tally ≡ old.tally
  pub adds : files' ≡ with_files files pictures

-- some of it was added to the folder
pub record AddsFront (held : Option (List ℕ)) (drawn : View) (origin : Origin) (files files' : Option (List Kept)) : Type 0 where
  pub shown : List Kept
  pub front : ShowsFront held drawn origin shown
  pub adds : files' ≡ with_files files shown

-- the rows of a file's levels were added, and their pictures
pub record AddsLevels (drawn : View) (origin : Origin) (bytes : List ℕ) (old new : List Row) (files files' : Option (List Kept)) : Type 0 where
  pub file : Wad
  pub more : List Row
  pub are : AreRowsOf origin bytes file more
  pub pictures : List Kept
  pub shows : ShowsRows drawn origin.judging.reading (file ∷ []) more pictures
  pub rows : new ≡ old ++ more
  pub adds : files' ≡ with_files files pictures

-- the first of them were, or none
pub record AddsPart (drawn : View) (origin : Origin) (bytes : List ℕ) (files files' : Option (List Kept)) : Type 0 where
  pub file : Wad
  pub rows : List Row
  pub are : AreRowsOf origin bytes file rows
  pub count : ℕ
  pub shown : List Kept
  pub pictures : ShowsRows drawn origin.judging.reading (file ∷ []) (take count rows) shown
  pub adds : files' ≡ with_files files shown

abbrev pub AddsSome : View → Origin → List ℕ → Option (List Kept) → Option (List Kept) → Type 0
AddsSome drawn origin bytes files files' = (files' ≡ files) ⊎ AddsPart drawn origin bytes files files'

-- the next of some paths: a front of its pictures was added
pub record ShowsNext (held : List ℕ → Option (List ℕ)) (asked : AtlasRequest) (number : ℕ) (paths : List (List ℕ)) (shown : List Kept) : Type 0 where
  pub path : List ℕ
  pub rest : List (List ℕ)
  pub stands : paths ≡ path ∷ rest
  pub origin : Origin
  pub is : IsOrigin asked number path origin
  pub front : ShowsFront (held path) asked.drawn origin shown

-- all of some paths was gathered
pub record GathersAll (held : List ℕ → Option (List ℕ)) (asked : AtlasRequest) (paths : List (List ℕ)) (rows : List Row) (refused : List RefusedFile) (files files' : Option (List Kept))
    (out out' errors errors' : SinkState) (tally : ReportSum) : Type 0 where
  pub shown : List Kept
  pub gathered : Gathers held asked out errors paths rows refused shown out' errors' tally
  pub adds : files' ≡ with_files files shown

-- the first of some paths were gathered, with a survey from these states on, and of the next one a front of its pictures
pub record GathersSome (held : List ℕ → Option (List ℕ)) (asked : AtlasRequest) (paths : List (List ℕ)) (files files' : Option (List Kept)) (survey errors : SinkState) : Type 0 where
  pub before : List (List ℕ)
  pub rest : List (List ℕ)
  pub stands : paths ≡ before ++ rest
  pub rows : List Row
  pub refused : List RefusedFile
  pub between : Option (List Kept)
  pub survey' : SinkState
  pub errors' : SinkState
  pub tally : ReportSum
  pub gathers : GathersAll held asked before rows refused files between survey survey' errors errors' tally
  pub shown : List Kept
  pub next : (shown ≡ []) ⊎ ShowsNext held asked (suc (length before)) rest shown
  pub adds : files' ≡ with_files between shown
