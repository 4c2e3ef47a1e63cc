-- What drawing the first level of a file does (ours).
use Rattle.std.specs.Prelude.{◌≡◌, ◌↔◌, ℕ, ◌<◌, Bool, IsTrue, List, [], ◌∷◌, All, length, map}
use Rattle.le_rec.specs.Sink.{SinkState}
use Rattle.wad_page.specs.declared.draw.PictureFault.{PictureFault}
use Rattle.wad_page.specs.declared.draw.PictureFault.TheVariants.{NoWad, NoEntry, NoLevel, NothingToDraw, Full}
use Rattle.map_level.specs.Level.{Level}
use Rattle.map_level.specs.Opening.{IsLevelAt, RefusesLevelAt}
use Rattle.map_level.specs.declared.reading.Reading.{Reading}
use Rattle.map_picture.specs.Drawing.{HasNothing, IsPicture, TakesWhole}
use Rattle.map_picture.specs.declared.draw.View.{View}
use Rattle.map_tree.specs.Sound.{IsSound}
use Rattle.wad_dir.specs.Entries.{joined}
use Rattle.wad_dir.specs.Refusal.{RefusesWad}
use Rattle.wad_dir.specs.Wad.{IsRead, Wad}

-- the one file of these bytes
pub record IsFileOf (bytes : List ℕ) (files : List Wad) : Type 0 where
  pub of_bytes : map (λ file. file.bytes) files ≡ bytes ∷ []
  pub read : All IsRead files

-- the level whose label is the first entry was drawn, and whether it has a fault
pub record DrawsLevel (files : List Wad) (reading : Reading) (asked : View) (before after : SinkState) (faulty : Bool) : Type 0 where
  pub level : Level
  pub there : IsLevelAt files 0 reading level
  pub takes : TakesWhole (IsPicture level asked) before after
  pub says : IsTrue faulty ↔ (¬ IsSound level)

-- the first level of the file of these bytes was drawn, and whether it has a fault
pub record DrawsFirst (bytes : List ℕ) (reading : Reading) (asked : View) (before after : SinkState) (faulty : Bool) : Type 0 where
  pub files : List Wad
  pub file : IsFileOf bytes files
  pub draws : DrawsLevel files reading asked before after faulty

-- the level there has nothing to draw
pub record DrawsNothing (files : List Wad) (reading : Reading) (asked : View) : Type 0 where
  pub level : Level
  pub there : IsLevelAt files 0 reading level
  pub none : HasNothing level asked.frame

-- why no level of some files is drawn
abbrev pub RefusesDrawing : {W : Type 0} → List Wad → Reading → View → W → W → PictureFault → Type 0
RefusesDrawing files reading asked out out' (NoWad why) = ⊥
RefusesDrawing files reading asked out out' NoEntry = (length (joined files) ≡ 0) × (out' ≡ out)
RefusesDrawing files reading asked out out' (NoLevel why) = (0 < length (joined files)) × RefusesLevelAt files 0 why × (out' ≡ out)
RefusesDrawing files reading asked out out' NothingToDraw = DrawsNothing files reading asked × (out' ≡ out)
RefusesDrawing files reading asked out out' Full = Unit {0}

pub record RefusesIn {W : Type 0} (bytes : List ℕ) (reading : Reading) (asked : View) (out out' : W) (fault : PictureFault) : Type 0 where
  pub files : List Wad
  pub file : IsFileOf bytes files
  pub refuses : RefusesDrawing files reading asked out out' fault

-- why the first level of the file of these bytes isn't drawn
abbrev pub RefusesFirst : {W : Type 0} → List ℕ → Reading → View → W → W → PictureFault → Type 0
RefusesFirst bytes reading asked out out' (NoWad why) = RefusesWad bytes why × (out' ≡ out)
RefusesFirst bytes reading asked out out' Full = Unit {0}
RefusesFirst bytes reading asked out out' fault = RefusesIn bytes reading asked out out' fault
