-- Where the linedefs and segs of a level start and end (maplinedef_t and mapseg_t of doomdata.h).
use Rattle.std.specs.Prelude.{◌≡◌, ℕ, ◌<◌, ℤ, pos, ◌⊎◌, Option, Some, None, IsSomeAnd, if◌then◌else◌, List, length, slice_index_or}
use Rattle.std.specs.List.{slice_get}
use Rattle.std.specs.Ordering.{int_eq}
use Rattle.le_rec.specs.declared.records.Vertex.{Vertex}
use Rattle.map_level.specs.Level.{Level}
use Rattle.map_level.specs.Links.{named, ◌>>=◌}
use Rattle.map_level.specs.Reading.{number_of}
use Rattle.map_cells.specs.declared.ends.Ends.{Ends}

-- the vertexes that two words name, where both are there
abbrev pub ends_named : Level → ℤ → ℤ → Option Ends
ends_named level v1 v2 = do
  from ← named level.vertexes.records (number_of level.reading v1)
  to ← named level.vertexes.records (number_of level.reading v2)
  Some (record { from = from; to = to })

-- the ends of a linedef and of a seg, where both are there
abbrev pub linedef_ends : Level → ℕ → Option Ends
linedef_ends level i = do
  linedef ← slice_get level.linedefs.records i
  ends_named level linedef.v1 linedef.v2

abbrev pub seg_ends : Level → ℕ → Option Ends
seg_ends level i = do
  seg ← slice_get level.segs.records i
  ends_named level seg.v1 seg.v2

-- the ends of a linedef in the direction of a seg: exchanged where the seg's side is 1
abbrev pub along : ℤ → Ends → Ends
along side ends = if int_eq side (pos 1) then record { from = ends.to; to = ends.from } else ends

-- the ends of the linedef along which a seg runs, in its direction, where both are there
abbrev pub line_ends : Level → ℕ → Option Ends
line_ends level i = do
  seg ← slice_get level.segs.records i
  linedef ← named level.linedefs.records (number_of level.reading seg.linedef)
  ends ← ends_named level linedef.v1 linedef.v2
  Some (along seg.side ends)

-- a list has these ends for the first of a level's segs
abbrev pub ListsEnds : Level → List (Option Ends) → Type 0
ListsEnds level list = (i : ℕ) → i < length list → line_ends level i ≡ slice_index_or list i None

-- a vertex is the start or the end
abbrev pub IsEither : Ends → Vertex → Type 0
IsEither ends v = (v ≡ ends.from) ⊎ (v ≡ ends.to)

-- a vertex is an end of a linedef whose two vertexes are there
abbrev pub IsEnd : Level → Vertex → Type 0
IsEnd level v = (i : ℕ) × IsSomeAnd (linedef_ends level i) (λ ends. IsEither ends v)
