-- The findings of a picture (ours): where a linedef or a seg is at fault, with what the audit says of it.
use Rattle.std.specs.Prelude.{ℕ, List, [], ◌∷◌, Option, Some, None, codes, map, ◌==◌, if◌then◌else◌}
use Rattle.std.specs.List.{slice_get}
use Rattle.std.specs.Option.{option_map, option_map_or}
use Rattle.le_rec.specs.declared.records.Vertex.{Vertex}
use Rattle.map_level.specs.Findings.{rank}
use Rattle.map_level.specs.Level.{Level}
use Rattle.map_level.specs.Links.{named, ◌>>=◌}
use Rattle.map_level.specs.Reading.{number_of}
use Rattle.map_level.specs.declared.finding.Code.{Code}
use Rattle.map_level.specs.declared.finding.Code.TheVariants.{F3, F4, F7, F8, F9, N3, N4, N5}
use Rattle.map_level.specs.declared.finding.Finding.{Finding}
use Rattle.look_engines.specs.Engines.Audit.{finding_line}
use Rattle.map_cells.specs.Ends.{linedef_ends, seg_ends}
use Rattle.lens_texts.specs.Escape.{escaped}
use Rattle.map_picture.specs.Head.{without_end}
use Rattle.lens_texts.specs.Parts.{joined}
use Rattle.map_picture.specs.Paths.{shape_part}
use Rattle.map_picture.specs.declared.marks.Marked.{Marked}
use Rattle.map_picture.specs.declared.marks.Marked.TheVariants.{Linedef, LoneEnd, Seg, Nothing}
use Rattle.map_picture.specs.declared.paths.Shape.{Shape}
use Rattle.map_picture.specs.declared.paths.Shape.TheVariants.{Line, Ring}

-- what a code is found at, if that can be drawn: of F3 the end that is there
abbrev pub marked_by : Code → Marked
marked_by F3 = LoneEnd
marked_by F4 = Linedef
marked_by N3 = Linedef
marked_by N4 = Linedef
marked_by N5 = Linedef
marked_by F7 = Seg
marked_by F8 = Seg
marked_by F9 = Seg
marked_by _ = Nothing

-- the only one of two vertexes that is there
abbrev pub lone_of : Option Vertex → Option Vertex → Option Vertex
lone_of (Some v) None = Some v
lone_of None (Some v) = Some v
lone_of (Some v) (Some w) = None
lone_of None None = None

-- the only end of a linedef that is there
abbrev pub lone_end : Level → ℕ → Option Vertex
lone_end level i = do
  linedef ← slice_get level.linedefs.records i
  lone_of (named level.vertexes.records (number_of level.reading linedef.v1)) (named level.vertexes.records (number_of level.reading linedef.v2))

-- what is drawn at what is of a number: a line where both ends are there, and a ring at a lone end
abbrev pub shape_of : Level → Marked → ℕ → Option Shape
shape_of level Linedef i = option_map (λ ends. Line ends) (linedef_ends level i)
shape_of level LoneEnd i = option_map (λ at. Ring at) (lone_end level i)
shape_of level Seg i = option_map (λ ends. Line ends) (seg_ends level i)
shape_of level Nothing i = None

-- `<path class="f" d="{shape}"><title>{the finding's line of the audit}</title></path>`
abbrev pub mark_line : Finding → Shape → List ℕ
mark_line f shape =
    joined (shape_part (codes "f") shape ∷ escaped (without_end (finding_line f))
    ∷ codes "</title></path>\n" ∷ [])

-- a finding's line, if what it was found at can be drawn
abbrev pub mark_part : Level → Finding → List ℕ
mark_part level f = option_map_or (mark_line f) (shape_of level (marked_by f.code) f.index) []

-- the lines of the findings
abbrev pub marks : Level → List Finding → List ℕ
marks level found = joined (map (mark_part level) found)

-- a finding's line, if it is one of a code
abbrev pub code_part : Level → Code → Finding → List ℕ
code_part level code f = if rank f.code == rank code then mark_part level f else []

-- the lines of a code's findings
abbrev pub code_marks : Level → Code → List Finding → List ℕ
code_marks level code found = joined (map (code_part level code) found)
