-- How a run that draws ends, as the host reads it (ours).
use Rattle.std.specs.Prelude.{◌≡◌, ◌⊎◌, ◌==◌, ◌<◌, ℕ, Bool, true, false, List, [], Option, Some, None, Result, Ok, Err, IfErr, IfOk, if◌then◌else◌}
use Rattle.wad_page.specs.Draw.{DrawsFirst, RefusesFirst}
use Rattle.wad_page.specs.declared.Ended.{Ended}
use Rattle.wad_page.specs.Ended.{HandsOut, LacksRoom}
use Rattle.wad_page.specs.Lens.{reading_of}
use Rattle.wad_page.specs.declared.draw.DrawQuestion.{DrawQuestion}
use Rattle.wad_page.specs.declared.draw.PictureFault.{PictureFault}
use Rattle.wad_page.specs.declared.draw.PictureFault.TheVariants.{NoWad, NoEntry, NoLevel, NothingToDraw, Full}
use Rattle.map_cells.specs.Frame.{Frame, IsFrame, frame_at}
use Rattle.map_picture.specs.declared.draw.View.{View}
use Rattle.memory_streams.specs.ToVec.{ToVec, state_of}

-- the frame that is asked for
abbrev pub frame_of : DrawQuestion → Option Frame
frame_of question = if question.framed == 0 then None else Some (frame_at question.x0 question.y0 question.x1 question.y1)

-- this is asked of the engine: no warnings, which the page marks by itself
pub record IsAsked (question : DrawQuestion) (view : View) : Type 0 where
  pub framed : view.frame ≡ frame_of question
  pub many : view.cells ≡ question.cells
  pub plain : view.warnings ≡ None

-- the status: a level that was drawn has a fault or none, and what isn't drawn is refused
abbrev pub draw_status : Result Bool PictureFault → ℕ
draw_status (Ok false) = 0
draw_status (Ok true) = 1
draw_status (Err (NoWad why)) = 2
draw_status (Err NoEntry) = 2
draw_status (Err (NoLevel why)) = 2
draw_status (Err NothingToDraw) = 2
draw_status (Err Full) = 3

-- the question was drawn or refused: the status says which, and the picture stands at the front of `out`
pub record Drew (file : List ℕ) (question : DrawQuestion) (out out' : List ℕ) (ended : Ended) : Type 0 where
  pub view : View
  pub is : IsAsked question view
  pub sink : ToVec
  pub sink' : ToVec
  pub empty : sink.taken ≡ []
  pub outcome : Result Bool PictureFault
  pub room : ¬ (outcome ≡ Err Full)
  pub drawn : IfOk outcome (DrawsFirst file (reading_of question.wide) view (state_of sink) (state_of sink'))
  pub refused : IfErr outcome (RefusesFirst file (reading_of question.wide) view sink sink')
  pub status : ended.status ≡ draw_status outcome
  pub picture : HandsOut sink'.taken out out' ended.answered
  pub silent : ended.told ≡ 0

-- the frame that is asked for has a lower bound past its upper one
pub record IsNoFrame (question : DrawQuestion) : Type 0 where
  pub asked : ¬ (question.framed ≡ 0)
  pub none : ¬ IsFrame (frame_at question.x0 question.y0 question.x1 question.y1)

-- the question is out of its bounds
abbrev pub IsOutOfBounds : DrawQuestion → Type 0
IsOutOfBounds question = (question.cells < 1) ⊎ (1024 < question.cells) ⊎ IsNoFrame question

-- the question is refused
pub record RefusesQuestion (question : DrawQuestion) (out out' : List ℕ) (ended : Ended) : Type 0 where
  pub why : IsOutOfBounds question
  pub status : ended.status ≡ 2
  pub answered : ended.answered ≡ 0
  pub silent : ended.told ≡ 0
  pub untouched : out' ≡ out

-- one of the two
abbrev pub AnswersDrawing : List ℕ → DrawQuestion → List ℕ → List ℕ → Ended → Type 0
AnswersDrawing file question out out' ended = RefusesQuestion question out out' ended ⊎ Drew file question out out' ended

-- or there was no room for it
abbrev pub DrawEnds : List ℕ → DrawQuestion → List ℕ → List ℕ → Ended → Type 0
DrawEnds file question out out' ended = LacksRoom ended ⊎ AnswersDrawing file question out out' ended
