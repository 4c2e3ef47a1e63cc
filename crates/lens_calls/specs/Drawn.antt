-- What `picture` does over files in memory (ours): the level of a name is drawn, or the reason why not is reported.
use Rattle.std.specs.Prelude.{◌≡◌, ◌≢◌, ◌⊎◌, ℕ, ◌+◌, List, [], codes, map, slice_index_or, All, Some}
use Rattle.std.specs.List.{slice_get}
use Rattle.std.specs.Io.KnownBytes.{Appends}
use Rattle.le_rec.specs.Name.{query_of}
use Rattle.le_rec.specs.Sink.{SinkState}
use Rattle.lens_calls.specs.Large.{AreSmall, IsFirstLarge}
use Rattle.lens_calls.specs.Why.{TellsWhy}
use Rattle.lens_commands.specs.Picture.{IsFound}
use Rattle.lens_commands.specs.PictureFormat.{IsDoomAt, IsUnreadAt}
use Rattle.lens_commands.specs.PictureTold.{named_line}
use Rattle.lens_commands.specs.declared.picture.draw.PictureQuestion.{PictureQuestion}
use Rattle.lens_engines.specs.Survey.{verdict_of_format}
use Rattle.lens_engines.specs.declared.object.FileRefusal.{FileRefusal}
use Rattle.lens_engines.specs.declared.object.FileRefusal.TheVariants.{NoWad, TooLarge}
use Rattle.lens_engines.specs.declared.verdict.Verdict.{Verdict}
use Rattle.lens_engines.specs.declared.verdict.Verdict.TheVariants.{Unjudged}
use Rattle.lens_reports.specs.Run.{refusal_line}
use Rattle.lens_texts.specs.FormatLine.{format_text}
use Rattle.lens_texts.specs.declared.unread.Unread.{Unread}
use Rattle.map_level.specs.Level.{Level}
use Rattle.map_level.specs.Opening.{IsLevelAt}
use Rattle.map_picture.specs.Drawing.{HasNothing, IsPicture, TakesWhole}
use Rattle.map_picture.specs.declared.draw.View.{View}
use Rattle.wad_dir.specs.Entries.{names}
use Rattle.wad_dir.specs.Refusal.{IsFirstRefused}
use Rattle.wad_dir.specs.Wad.{IsRead, Wad}
use Rattle.wad_dir.specs.Winner.{Wins}
use Rattle.wad_dir.specs.declared.wad.WadFault.{WadFault}

-- the level's picture was written
pub record DrawsWhole (asked : View) (level : Level) (out out' errors errors' : SinkState) (verdict : Verdict) : Type 0 where
  pub takes : TakesWhole (IsPicture level asked) out out'
  pub silent : errors' ≡ errors
  pub finds : IsFound level verdict

-- the level has nothing to draw, and this was reported
pub record DrawsNothing (question : PictureQuestion) (level : Level) (out out' errors errors' : SinkState) (verdict : Verdict) : Type 0 where
  pub none : HasNothing level question.drawn.frame
  pub tells : TellsWhy (named_line question.name.now (codes "nothing to draw\n")) Unjudged out out' errors errors' verdict

-- one of the two
abbrev pub DrawsLevel : PictureQuestion → Level → SinkState → SinkState → SinkState → SinkState → Verdict → Type 0
DrawsLevel question level out out' errors errors' verdict =
    DrawsNothing question level out out' errors errors' verdict ⊎ DrawsWhole question.drawn level out out' errors errors' verdict

-- the level at an entry is in a format that isn't read, it isn't whole or its nodes are broken, and this was reported
pub record DrawsOther (name : List ℕ) (files : List Wad) (g : ℕ) (out out' errors errors' : SinkState) (verdict : Verdict) : Type 0 where
  pub unread : Unread
  pub is : IsUnreadAt files g unread
  pub tells : TellsWhy (named_line name (format_text unread)) (verdict_of_format unread) out out' errors errors' verdict

-- a level in Doom's format starts at an entry
pub record DrawsDoom (question : PictureQuestion) (files : List Wad) (g : ℕ) (out out' errors errors' : SinkState) (verdict : Verdict) : Type 0 where
  pub is : IsDoomAt files g
  pub level : Level
  pub there : IsLevelAt files g question.reading level
  pub draws : DrawsLevel question level out out' errors errors' verdict

abbrev pub DrawsAt : PictureQuestion → List Wad → ℕ → SinkState → SinkState → SinkState → SinkState → Verdict → Type 0
DrawsAt question files g out out' errors errors' verdict =
    DrawsOther question.name.now files g out out' errors errors' verdict ⊎ DrawsDoom question files g out out' errors errors' verdict

-- no entry has the name, and this was reported
pub record DrawsNoName (name : List ℕ) (files : List Wad) (out out' errors errors' : SinkState) (verdict : Verdict) : Type 0 where
  pub none : (g : ℕ) → slice_get (names files) g ≢ Some (query_of name)
  pub tells : TellsWhy (named_line name (codes "no level of this name\n")) Unjudged out out' errors errors' verdict

-- an entry wins the name
pub record DrawsWinner (question : PictureQuestion) (files : List Wad) (out out' errors errors' : SinkState) (verdict : Verdict) : Type 0 where
  pub entry : ℕ
  pub wins : Wins (names files) (query_of question.name.now) entry
  pub draws : DrawsAt question files entry out out' errors errors' verdict

abbrev pub DrawsNamed : PictureQuestion → List Wad → SinkState → SinkState → SinkState → SinkState → Verdict → Type 0
DrawsNamed question files out out' errors errors' verdict =
    DrawsNoName question.name.now files out out' errors errors' verdict ⊎ DrawsWinner question files out out' errors errors' verdict

-- it was reported that the file of a place is refused
pub record RefusesAt (paths : List (List ℕ)) (place : ℕ) (refusal : FileRefusal) (errors errors' : SinkState) (verdict : Verdict) : Type 0 where
  pub message : Appends errors.taken errors'.taken (refusal_line (slice_index_or paths place []) refusal)
  pub says : verdict ≡ Unjudged

-- the first of the files that has no directory was reported
pub record RefusesDirectory (paths files : List (List ℕ)) (out out' errors errors' : SinkState) (verdict : Verdict) : Type 0 where
  pub place : ℕ
  pub why : WadFault
  pub refuses : IsFirstRefused files (place + 1) why
  pub untouched : out' ≡ out
  pub tells : RefusesAt paths place (NoWad why) errors errors' verdict

-- the files form one set
pub record DrawsSet (question : PictureQuestion) (files : List (List ℕ)) (out out' errors errors' : SinkState) (verdict : Verdict) : Type 0 where
  pub wads : List Wad
  pub of_files : map (λ wad. wad.bytes) wads ≡ files
  pub read : All IsRead wads
  pub draws : DrawsNamed question wads out out' errors errors' verdict

abbrev pub DrawsTogether : PictureQuestion → List (List ℕ) → List (List ℕ) → SinkState → SinkState → SinkState → SinkState → Verdict → Type 0
DrawsTogether question paths files out out' errors errors' verdict =
    RefusesDirectory paths files out out' errors errors' verdict ⊎ DrawsSet question files out out' errors errors' verdict

-- the first of the files that is larger than what is read was reported, before a directory is looked at
pub record RefusesLarge (paths files : List (List ℕ)) (out out' errors errors' : SinkState) (verdict : Verdict) : Type 0 where
  pub place : ℕ
  pub large : IsFirstLarge files place
  pub untouched : out' ≡ out
  pub tells : RefusesAt paths place TooLarge errors errors' verdict

-- no file is, and their set was drawn
pub record DrawsSmall (question : PictureQuestion) (paths files : List (List ℕ)) (out out' errors errors' : SinkState) (verdict : Verdict) : Type 0 where
  pub small : AreSmall files
  pub draws : DrawsTogether question paths files out out' errors errors' verdict

abbrev pub DrawsFiles : PictureQuestion → List (List ℕ) → List (List ℕ) → SinkState → SinkState → SinkState → SinkState → Verdict → Type 0
DrawsFiles question paths files out out' errors errors' verdict =
    RefusesLarge paths files out out' errors errors' verdict ⊎ DrawsSmall question paths files out out' errors errors' verdict
