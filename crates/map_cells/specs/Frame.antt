-- The part of a map that is drawn (ours).
use Rattle.std.specs.Prelude.{◌≡◌, ℤ, ◌≤ℤ◌, Option, Some, None}
use Rattle.std.specs.Int.{int_min, int_max}
use Rattle.le_rec.specs.declared.records.Vertex.{Vertex}
use Rattle.map_cells.specs.declared.ends.Ends.{Ends}

-- from column x0 to column x1 and from row y0 to row y1
pub record Frame : Type 0 where
  pub x0 : ℤ
  pub y0 : ℤ
  pub x1 : ℤ
  pub y1 : ℤ

-- the frame with these bounds
abbrev pub frame_at : ℤ → ℤ → ℤ → ℤ → Frame
frame_at x0 y0 x1 y1 = record { x0 = x0; y0 = y0; x1 = x1; y1 = y1 }

-- the lower bounds aren't past the upper ones
pub record IsFrame (frame : Frame) : Type 0 where
  pub columns : frame.x0 ≤ℤ frame.x1
  pub rows : frame.y0 ≤ℤ frame.y1

-- a vertex is in the frame
pub record HasInside (frame : Frame) (v : Vertex) : Type 0 where
  pub left : frame.x0 ≤ℤ v.x
  pub right : v.x ≤ℤ frame.x1
  pub lowest : frame.y0 ≤ℤ v.y
  pub highest : v.y ≤ℤ frame.y1

-- the least and greatest x and y of some vertexes: all are in the frame, and each bound is one's
pub record Encloses (IsOne : Vertex → Type 0) (frame : Frame) : Type 0 where
  pub all : (v : Vertex) → IsOne v → HasInside frame v
  pub left : (v : Vertex) × IsOne v × (v.x ≡ frame.x0)
  pub right : (v : Vertex) × IsOne v × (v.x ≡ frame.x1)
  pub lowest : (v : Vertex) × IsOne v × (v.y ≡ frame.y0)
  pub highest : (v : Vertex) × IsOne v × (v.y ≡ frame.y1)

-- a frame with a vertex more
abbrev pub widened : Option Frame → Vertex → Frame
widened None v = frame_at v.x v.y v.x v.y
widened (Some frame) v =
    frame_at (int_min frame.x0 v.x) (int_min frame.y0 v.y) (int_max frame.x1 v.x) (int_max frame.y1 v.y)

-- a frame with the ends of a linedef more, where it has both
abbrev pub frame_with : Option Frame → Option Ends → Option Frame
frame_with frame None = frame
frame_with frame (Some ends) = Some (widened (Some (widened frame ends.from)) ends.to)
