-- The picture of a level by what is asked for alone (ours): its frame, its cells, and what they show.
use Rattle.std.specs.Prelude.{◌≡◌, ◌↔◌, ◌⊎◌, ℕ, ◌<◌, IsTrue, false, true, List, [], All, AllPairs, Contains, Option, Some, None}
use Rattle.std.specs.Io.KnownBytes.{Appends}
use Rattle.le_rec.specs.Sink.{SinkState}
use Rattle.le_rec.specs.declared.records.Vertex.{Vertex}
use Rattle.line_io.specs.Writes.{TakesFront}
use Rattle.map_audit.specs.Findings.{AuditHolds}
use Rattle.map_cells.specs.Cells.{AreCells, Cells, cell}
use Rattle.map_cells.specs.SectorCounts.{cells_of}
use Rattle.map_cells.specs.Ends.{IsEnd}
use Rattle.map_cells.specs.Frame.{Encloses, Frame}
use Rattle.map_cells.specs.Grid.{Grid, IsSize, grid_at}
use Rattle.map_cells.specs.Groups.{AreBlocksOf}
use Rattle.map_level.specs.Findings.{AreFindings}
use Rattle.map_level.specs.Level.{Level}
use Rattle.map_level.specs.declared.finding.Finding.{Finding}
use Rattle.map_tree.specs.Sound.{IsSound}
use Rattle.map_picture.specs.Picture.{picture_text}
use Rattle.map_picture.specs.WarningMarks.{AreMarkedFor}
use Rattle.map_warnings.specs.declared.warning.Warning.{Warning}
use Rattle.map_picture.specs.declared.draw.View.{View}
use Rattle.map_picture.specs.declared.draw.DrawFault.{DrawFault}
use Rattle.map_picture.specs.declared.draw.DrawFault.TheVariants.{NothingToDraw, Memory, Write}
use Rattle.map_picture.specs.declared.draw.TextFault.{TextFault}
use Rattle.map_picture.specs.declared.draw.TextFault.TheVariants as text
use Rattle.map_picture.specs.declared.sectors.SectorCells.{SectorCells}

-- the part that is drawn: the one that is asked for, and else that of the ends of the level's linedefs
abbrev pub IsFrameOf : Level → Option Frame → Frame → Type 0
IsFrameOf level None frame = Encloses (IsEnd level) frame
IsFrameOf level (Some asked) frame = frame ≡ asked

-- there is no such part: no linedef has its two vertexes, and none is asked for
pub record HasNothing (level : Level) (asked : Option Frame) : Type 0 where
  pub unasked : asked ≡ None
  pub none : (v : Vertex) → ¬ IsEnd level v

-- a sector that cells show, with all its blocks and how many cells they are
pub record IsSectorOf (cells : Cells) (shown : SectorCells) : Type 0 where
  pub some : 0 < shown.cells
  pub count : shown.cells ≡ cells_of cells shown.number
  pub blocks : AreBlocksOf (cell cells) shown.number shown.blocks.now

-- all sectors that cells show, ascending
pub record AreSectorsOf (cells : Cells) (shown : List SectorCells) : Type 0 where
  pub ascending : AllPairs (λ a b. a.number < b.number) shown
  pub each : All (IsSectorOf cells) shown
  pub every : (i j s : ℕ) → cell cells i j ≡ Some s → (one : SectorCells) × Contains shown one × (one.number ≡ s)

-- what the cells of a grid show of a level
pub record ShowsCells (level : Level) (grid : Grid) (shown : List SectorCells) : Type 0 where
  pub cells : Cells
  pub over : cells.grid ≡ grid
  pub are : AreCells level cells
  pub sectors : AreSectorsOf cells shown

-- a level that isn't sound has no cells
abbrev pub ShowsSectors : Level → Grid → List SectorCells → Type 0
ShowsSectors level grid shown = (IsSound level × ShowsCells level grid shown) ⊎ ((¬ IsSound level) × (shown ≡ []))

-- the picture's text, with these findings and marked warnings, and over this grid
pub record IsDrawn (level : Level) (found : List Finding) (grid : Grid) (marked : List Warning) (text : List ℕ) : Type 0 where
  pub shown : List SectorCells
  pub shows : ShowsSectors level grid shown
  pub is : text ≡ picture_text level found grid.frame grid.size shown marked

-- the same with the level's findings
pub record IsAuditedDrawn (level : Level) (grid : Grid) (marked : List Warning) (text : List ℕ) : Type 0 where
  pub found : List Finding
  pub audited : AreFindings (AuditHolds level) found
  pub drawn : IsDrawn level found grid marked text

-- the picture's text, with the level's findings and by these sectors over this grid
pub record IsAuditedText (level : Level) (grid : Grid) (shown : List SectorCells) (marked : List Warning) (text : List ℕ) : Type 0 where
  pub found : List Finding
  pub audited : AreFindings (AuditHolds level) found
  pub is : text ≡ picture_text level found grid.frame grid.size shown marked

-- the picture's text: of the level's findings and the warnings that are asked for, its frame or the one that is asked for, and cells of
-- the least size at which the longer side has at most as many as are asked for
pub record IsPicture (level : Level) (asked : View) (text : List ℕ) : Type 0 where
  pub found : List Finding
  pub audited : AreFindings (AuditHolds level) found
  pub frame : Frame
  pub framed : IsFrameOf level asked.frame frame
  pub size : ℕ
  pub sized : IsSize frame asked.cells size
  pub marked : List Warning
  pub marks : AreMarkedFor asked.warnings level marked
  pub drawn : IsDrawn level found (grid_at frame size) marked text

-- a text of this kind was taken
pub record TakesWhole (IsText : List ℕ → Type 0) (before after : SinkState) : Type 0 where
  pub text : List ℕ
  pub is : IsText text
  pub whole : Appends before.taken after.taken text
  pub sound : after.failed ≡ false

-- a front of one was taken, and the sink has failed
pub record TakesSome (IsText : List ℕ → Type 0) (before after : SinkState) : Type 0 where
  pub text : List ℕ
  pub is : IsText text
  pub front : TakesFront before after text
  pub failed : after.failed ≡ true

-- why no text of this kind was written: memory was refused, and then none of it was; or the sink failed
abbrev pub StopsText : {W : Type 0} → (W → SinkState) → (List ℕ → Type 0) → W → W → TextFault → Type 0
StopsText state IsText out out' text.Memory = out' ≡ out
StopsText state IsText out out' text.Write = TakesSome IsText (state out) (state out')

-- why no picture of a level was: there is nothing to draw, or memory was refused, and then nothing was written; or the sink failed, and
-- the level has a fault or none
abbrev pub StopsDrawing : {W : Type 0} → (W → SinkState) → Level → View → W → W → DrawFault → Type 0
StopsDrawing state level asked out out' NothingToDraw = HasNothing level asked.frame × (out' ≡ out)
StopsDrawing state level asked out out' Memory = out' ≡ out
StopsDrawing state level asked out out' (Write faulty) =
    (IsTrue faulty ↔ (¬ IsSound level)) × TakesSome (IsPicture level asked) (state out) (state out')
