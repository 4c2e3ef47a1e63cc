-- The picture of a level (ours): the text of an SVG.
use Rattle.std.specs.Prelude.{ℕ, neg_ℤ, true, false, List, [], ◌∷◌, ◌++◌, Result, codes, map}
use Rattle.std.specs.Fmt.{decimal, signed_decimal}
use Rattle.std.specs.List.{slice_get}
use Rattle.std.specs.Option.{option_map_or}
use Rattle.le_rec.specs.Sink.{SinkState}
use Rattle.line_io.specs.Writes.{Writes}
use Rattle.line_io.specs.declared.fault.IoFault.{IoFault}
use Rattle.map_audit.specs.Findings.{AuditHolds}
use Rattle.map_cells.specs.Frame.{Frame}
use Rattle.map_level.specs.Findings.{AreFindings}
use Rattle.map_level.specs.Level.{Level}
use Rattle.map_level.specs.Links.{sectors_of}
use Rattle.map_level.specs.declared.finding.Finding.{Finding}
use Rattle.map_warnings.specs.declared.warning.Warning.{Warning}
use Rattle.map_picture.specs.Head.{ground_line, style_line, svg_line, title_line, title_of}
use Rattle.map_picture.specs.Lines.{lines_line}
use Rattle.map_picture.specs.Marks.{marks}
use Rattle.lens_texts.specs.Parts.{joined}
use Rattle.map_picture.specs.Sectors.{sector_line}
use Rattle.map_picture.specs.Things.{things_lines}
use Rattle.map_picture.specs.WarningMarks.{warning_marks}
use Rattle.map_picture.specs.Window.{window_of}
use Rattle.map_picture.specs.declared.finding_counts.FindingCounts.{FindingCounts}
use Rattle.map_picture.specs.declared.sectors.SectorCells.{SectorCells}

-- `<g class="s" transform="matrix({size} 0 0 {-size} {x0} {-y0})">`: what follows is in cells, rows going up
abbrev pub cells_line : Frame → ℕ → List ℕ
cells_line frame size =
    codes "<g class=\"s\" transform=\"matrix(" ++ (decimal size ++ (codes " 0 0 -" ++ (decimal size ++ (codes " "
    ++ (signed_decimal frame.x0 ++ (codes " " ++ (signed_decimal (neg_ℤ frame.y0) ++ codes ")\">\n")))))))

-- what follows is in map units
abbrev pub units_line : List ℕ
units_line = codes "</g><g transform=\"matrix(1 0 0 -1 0 0)\">\n"

-- the line of a sector by its cells, where the level has that sector
abbrev pub sector_part : Level → SectorCells → List ℕ
sector_part level shown =
    option_map_or (λ sector. sector_line shown.number sector shown.blocks.now shown.cells) (slice_get (sectors_of level) shown.number) []

-- the lines of the sectors that are shown
abbrev pub sector_lines : Level → List SectorCells → List ℕ
sector_lines level shown = joined (map (sector_part level) shown)

-- the lines up to the linedefs: of a level with a title, in a frame, by cells of a size that show sectors
abbrev pub map_parts : Level → List ℕ → Frame → ℕ → List SectorCells → List (List ℕ)
map_parts level title frame size shown =
    svg_line (window_of frame)
    ∷ title
    ∷ style_line
    ∷ ground_line (window_of frame)
    ∷ cells_line frame size
    ∷ sector_lines level shown
    ∷ units_line
    ∷ lines_line level true
    ∷ lines_line level false
    ∷ []

-- the text up to the linedefs, of a level with so many findings
abbrev pub map_text : Level → FindingCounts → Frame → ℕ → List SectorCells → List ℕ
map_text level counts frame size shown = joined (map_parts level (title_of level counts) frame size shown)

-- the lines behind the findings: marked warnings, and things
abbrev pub last_parts : Level → List Warning → List (List ℕ)
last_parts level marked = warning_marks level marked ∷ things_lines level ∷ codes "</g></svg>\n" ∷ []

-- the lines from the findings on
abbrev pub found_parts : Level → List Finding → List Warning → List (List ℕ)
found_parts level found marked = marks level found ∷ last_parts level marked

-- the lines of a picture: of a level with these findings and marked warnings, in a frame, by cells of a size that show sectors
abbrev pub picture_parts : Level → List Finding → Frame → ℕ → List SectorCells → List Warning → List (List ℕ)
picture_parts level found frame size shown marked =
    map_parts level (title_line level found) frame size shown ++ found_parts level found marked

-- the text of a picture
abbrev pub picture_text : Level → List Finding → Frame → ℕ → List SectorCells → List Warning → List ℕ
picture_text level found frame size shown marked = joined (picture_parts level found frame size shown marked)

-- the writer of the text of a level with all its findings answers `result`
pub record WritesPicture {T : Type 0} (level : Level) (frame : Frame) (size : ℕ) (shown : List SectorCells) (marked : List Warning)
    (before after : SinkState) (result : Result T IoFault) : Type 0 where
  pub found : List Finding
  pub audited : AreFindings (AuditHolds level) found
  pub writes : Writes before after (picture_text level found frame size shown marked) result
