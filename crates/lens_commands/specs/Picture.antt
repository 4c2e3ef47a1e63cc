-- What the run of `picture` does (ours): the level of a name is drawn, or the reason why not is reported.
use Rattle.std.specs.Prelude.{◌≡◌, ◌≢◌, ◌↔◌, ◌⊎◌, ℕ, ◌+◌, Bool, true, false, IsTrue, List, codes, map, All, Option, Some, Result, Ok, Err}
use Rattle.std.specs.List.{slice_get}
use Rattle.le_rec.specs.Name.{query_of}
use Rattle.le_rec.specs.Sink.{SinkState}
use Rattle.line_io.specs.Storage.{AreHeld}
use Rattle.lens_commands.specs.PictureFiles.{IsFirstUnread}
use Rattle.lens_commands.specs.PictureFormat.{IsDoomAt, IsUnreadAt}
use Rattle.lens_commands.specs.PictureTold.{TellsRefused, named_line}
use Rattle.lens_commands.specs.declared.picture.draw.PictureQuestion.{PictureQuestion}
use Rattle.lens_reports.specs.Job.{TellsRest, WantsMemory}
use Rattle.lens_reports.specs.Run.{IsTold}
use Rattle.lens_reports.specs.declared.end.End.{End}
use Rattle.lens_reports.specs.declared.end.End.TheVariants as end
use Rattle.lens_reports.specs.declared.output.Output.{Output}
use Rattle.map_level.specs.Level.{Level}
use Rattle.map_level.specs.Opening.{IsLevelAt}
use Rattle.map_picture.specs.Drawing.{HasNothing, IsPicture}
use Rattle.map_picture.specs.declared.draw.View.{View}
use Rattle.map_tree.specs.Sound.{IsSound}
use Rattle.wad_dir.specs.Entries.{names}
use Rattle.wad_dir.specs.Wad.{IsRead, Wad}
use Rattle.wad_dir.specs.Refusal.{IsFirstRefused}
use Rattle.wad_dir.specs.Winner.{Wins}
use Rattle.wad_dir.specs.declared.wad.WadFault.{WadFault}
use Rattle.lens_texts.specs.FormatLine.{format_text}
use Rattle.lens_texts.specs.declared.unread.Unread.{Unread}
use Rattle.lens_engines.specs.Survey.{verdict_of_format}
use Rattle.lens_engines.specs.declared.object.FileRefusal.{FileRefusal}
use Rattle.lens_engines.specs.declared.object.FileRefusal.TheVariants.{NoWad}
use Rattle.lens_engines.specs.declared.verdict.Verdict.{Verdict}
use Rattle.lens_engines.specs.declared.verdict.Verdict.TheVariants.{Clean, Faulty}

-- what was found of a drawn level, by whether it has a fault
abbrev pub drawn_verdict : Bool → Verdict
drawn_verdict true = Faulty
drawn_verdict false = Clean

pub record IsFound (level : Level) (found : Verdict) : Type 0 where
  pub faulty : Bool
  pub says : IsTrue faulty ↔ (¬ IsSound level)
  pub is : found ≡ drawn_verdict faulty

-- a text was written to standard error and nothing to the output, and the run ended so
pub record TellsAlone {W : Type 0} (text : List ℕ) (ended : Result Verdict End) (old new : Output W) (errors errors' : SinkState) (result : Result Verdict End) : Type 0 where
  pub told : IsTold errors errors' text
  pub untouched : new ≡ old
  pub ends : result ≡ ended

-- the level's picture was written, all of it or up to a write that failed, and standard error took nothing
pub record DrawsWhole {W : Type 0} (level : Level) (asked : View) (contents : W → Option (List ℕ)) (old new : Output W) (errors errors' : SinkState) (result : Result Verdict End) : Type 0 where
  pub text : List ℕ
  pub is : IsPicture level asked text
  pub found : Verdict
  pub finds : IsFound level found
  pub rest : TellsRest contents text found old new result
  pub silent : errors' ≡ errors

-- the level has nothing to draw, and this was reported
pub record DrawsNothing {W : Type 0} (level : Level) (question : PictureQuestion) (old new : Output W) (errors errors' : SinkState) (result : Result Verdict End) : Type 0 where
  pub none : HasNothing level question.drawn.frame
  pub tells : TellsAlone (named_line question.name.now (codes "nothing to draw\n")) (Err end.Refused) old new errors errors' result

-- one of the two; or there was no memory
abbrev pub DrawsLevel : {W : Type 0} → Level → PictureQuestion → (W → Option (List ℕ)) → Output W → Output W → SinkState → SinkState → Result Verdict End → Type 0
DrawsLevel level question contents old new errors errors' result =
    WantsMemory old new errors errors' result ⊎ DrawsNothing level question old new errors errors' result
    ⊎ DrawsWhole level question.drawn contents old new errors errors' result

-- the level at an entry is in a format that isn't read, it isn't whole or its nodes are broken, and this was reported
pub record DrawsOther {W : Type 0} (files : List Wad) (g : ℕ) (name : List ℕ) (old new : Output W) (errors errors' : SinkState) (result : Result Verdict End) : Type 0 where
  pub unread : Unread
  pub is : IsUnreadAt files g unread
  pub tells : TellsAlone (named_line name (format_text unread)) (Ok (verdict_of_format unread)) old new errors errors' result

-- a level in Doom's format starts at an entry
pub record DrawsDoom {W : Type 0} (files : List Wad) (g : ℕ) (question : PictureQuestion) (contents : W → Option (List ℕ)) (old new : Output W) (errors errors' : SinkState) (result : Result Verdict End) : Type 0 where
  pub is : IsDoomAt files g
  pub level : Level
  pub there : IsLevelAt files g question.reading level
  pub draws : DrawsLevel level question contents old new errors errors' result

abbrev pub DrawsAt : {W : Type 0} → List Wad → ℕ → PictureQuestion → (W → Option (List ℕ)) → Output W → Output W → SinkState → SinkState → Result Verdict End → Type 0
DrawsAt files g question contents old new errors errors' result =
    DrawsOther files g question.name.now old new errors errors' result ⊎ DrawsDoom files g question contents old new errors errors' result

-- no entry has the name, and this was reported
pub record DrawsNoName {W : Type 0} (files : List Wad) (name : List ℕ) (old new : Output W) (errors errors' : SinkState) (result : Result Verdict End) : Type 0 where
  pub none : (g : ℕ) → slice_get (names files) g ≢ Some (query_of name)
  pub tells : TellsAlone (named_line name (codes "no level of this name\n")) (Err end.Refused) old new errors errors' result

-- an entry wins the name
pub record DrawsWinner {W : Type 0} (files : List Wad) (question : PictureQuestion) (contents : W → Option (List ℕ)) (old new : Output W) (errors errors' : SinkState) (result : Result Verdict End) : Type 0 where
  pub entry : ℕ
  pub wins : Wins (names files) (query_of question.name.now) entry
  pub draws : DrawsAt files entry question contents old new errors errors' result

abbrev pub DrawsNamed : {W : Type 0} → List Wad → PictureQuestion → (W → Option (List ℕ)) → Output W → Output W → SinkState → SinkState → Result Verdict End → Type 0
DrawsNamed files question contents old new errors errors' result =
    DrawsNoName files question.name.now old new errors errors' result ⊎ DrawsWinner files question contents old new errors errors' result

-- the first of the files that has no directory was reported
pub record RefusesDirectory {W : Type 0} (paths bytes : List (List ℕ)) (old new : Output W) (errors errors' : SinkState) (result : Result Verdict End) : Type 0 where
  pub index : ℕ
  pub why : WadFault
  pub refuses : IsFirstRefused bytes (index + 1) why
  pub tells : TellsRefused paths index (NoWad why) errors errors'
  pub untouched : new ≡ old
  pub ended : result ≡ Err end.Refused

-- the files form one set
pub record DrawsSet {W : Type 0} (bytes : List (List ℕ)) (question : PictureQuestion) (contents : W → Option (List ℕ)) (old new : Output W) (errors errors' : SinkState) (result : Result Verdict End) : Type 0 where
  pub files : List Wad
  pub of_bytes : map (λ file. file.bytes) files ≡ bytes
  pub read : All IsRead files
  pub draws : DrawsNamed files question contents old new errors errors' result

-- the files under the paths hold these bytes
abbrev pub DrawsFiles : {W : Type 0} → List (List ℕ) → List (List ℕ) → PictureQuestion → (W → Option (List ℕ)) → Output W → Output W → SinkState → SinkState → Result Verdict End → Type 0
DrawsFiles paths bytes question contents old new errors errors' result =
    WantsMemory old new errors errors' result ⊎ RefusesDirectory paths bytes old new errors errors' result
    ⊎ DrawsSet bytes question contents old new errors errors' result

-- the first of the files that isn't read was reported
pub record RefusesUnread {W : Type 0} (held : List ℕ → Option (List ℕ)) (paths : List (List ℕ)) (old new : Output W) (errors errors' : SinkState) (result : Result Verdict End) : Type 0 where
  pub index : ℕ
  pub refusal : FileRefusal
  pub why : IsFirstUnread held paths index refusal
  pub tells : TellsRefused paths index refusal errors errors'
  pub untouched : new ≡ old
  pub ended : result ≡ Err end.Refused

-- all files are read, before a directory is looked at
pub record DrawsRead {W : Type 0} (held : List ℕ → Option (List ℕ)) (paths : List (List ℕ)) (question : PictureQuestion) (contents : W → Option (List ℕ)) (old new : Output W) (errors errors' : SinkState) (result : Result Verdict End) : Type 0 where
  pub bytes : List (List ℕ)
  pub are : AreHeld held paths bytes
  pub draws : DrawsFiles paths bytes question contents old new errors errors' result

-- the run over files that hold what `held` says, where that is known
abbrev pub DrawsPaths : {W : Type 0} → (List ℕ → Option (List ℕ)) → List (List ℕ) → PictureQuestion → (W → Option (List ℕ)) → Output W → Output W → SinkState → SinkState → Result Verdict End → Type 0
DrawsPaths held paths question contents old new errors errors' result =
    WantsMemory old new errors errors' result ⊎ RefusesUnread held paths old new errors errors' result
    ⊎ DrawsRead held paths question contents old new errors errors' result
