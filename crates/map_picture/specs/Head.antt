-- What a picture begins with (SVG 1.1): the part of the map that is seen, a title, and how things look.
use Rattle.std.specs.Prelude.{ℕ, ◌-◌, ◌*◌, List, [], ◌∷◌, ◌++◌, codes, length, max, slice_index_or, take, unsigned_abs}
use Rattle.std.specs.Fmt.{decimal, signed_decimal}
use Rattle.std.specs.Int.{div_ceil}
use Rattle.le_rec.specs.Name.{shown_name}
use Rattle.map_level.specs.Level.{Level}
use Rattle.map_level.specs.declared.finding.Finding.{Finding}
use Rattle.look_engines.specs.Engines.Audit.{totals_line}
use Rattle.map_picture.specs.Counts.{counts_of}
use Rattle.lens_texts.specs.Escape.{escaped}
use Rattle.lens_texts.specs.Parts.{joined}
use Rattle.map_picture.specs.declared.finding_counts.FindingCounts.{FindingCounts}
use Rattle.map_picture.specs.declared.window.Window.{Window}

-- `<svg .. viewBox="{left} {top} {width} {height}"`
abbrev pub view_text : Window → List ℕ
view_text window =
    codes "<svg xmlns=\"http://www.w3.org/2000/svg\" viewBox=\"" ++ (signed_decimal window.left ++ (codes " " ++ (signed_decimal window.top
    ++ (codes " " ++ (signed_decimal window.width ++ (codes " " ++ (signed_decimal window.height ++ codes "\"")))))))

-- a window's longer side
abbrev pub longer_side : Window → ℕ
longer_side window = max (unsigned_abs window.width) (unsigned_abs window.height)

-- how many pixels a side has where the longer one has 1024
abbrev pub pixels : ℕ → ℕ → ℕ
pixels longer side = div_ceil (side * 1024) (max longer 1)

-- ` width="{pixels}" height="{pixels}">`: how large a picture is by itself
abbrev pub size_text : Window → List ℕ
size_text window =
    codes " width=\"" ++ (decimal (pixels (longer_side window) (unsigned_abs window.width)) ++ (codes "\" height=\""
    ++ (decimal (pixels (longer_side window) (unsigned_abs window.height)) ++ codes "\">\n")))

-- `<svg .. viewBox="{left} {top} {width} {height}" width="{pixels}" height="{pixels}">`
abbrev pub svg_line : Window → List ℕ
svg_line window = view_text window ++ size_text window

-- a line without its end
abbrev pub without_end : List ℕ → List ℕ
without_end line = take (length line - 1) line

-- the label's name as it is shown
abbrev pub label_name : Level → List ℕ
label_name level = shown_name (slice_index_or level.names 0 [])

-- `<title>{label}: {totals of the audit}</title>`, by how many findings there are
abbrev pub title_of : Level → FindingCounts → List ℕ
title_of level counts =
    joined (codes "<title>" ∷ escaped (label_name level) ∷ codes ": "
    ∷ escaped (without_end (totals_line counts.faults counts.notes)) ∷ codes "</title>\n" ∷ [])

-- the title of a level with these findings
abbrev pub title_line : Level → List Finding → List ℕ
title_line level found = title_of level (counts_of found)

-- the style sheet: sectors, walls, lines between sectors, findings, warnings, and things by their classes
abbrev pub style_line : List ℕ
style_line =
    codes "<style>svg{background:#14161a}path{vector-effect:non-scaling-stroke}.s{shape-rendering:crispEdges}.s path:hover{fill:#fb5}.w{fill:none;stroke:#eee;stroke-width:1.5}.t{fill:none;stroke:#778;stroke-width:.7}.f{fill:none;stroke:#f33;stroke-width:4}.a{fill:none;stroke:#fb3;stroke-width:3}.p{vector-effect:none;stroke:#14161a;stroke-width:5;paint-order:stroke}.start{fill:#6f6}.monster{fill:#f7b}.weapon{fill:#5cf}.key{fill:#ff5}.other{fill:#cba}.p:hover{fill:#fff}</style>\n"

-- the ground, all of what is seen
abbrev pub ground_line : Window → List ℕ
ground_line window =
    codes "<rect x=\"" ++ (signed_decimal window.left ++ (codes "\" y=\"" ++ (signed_decimal window.top ++ (codes "\" width=\""
    ++ (signed_decimal window.width ++ (codes "\" height=\"" ++ (signed_decimal window.height ++ codes "\" fill=\"#14161a\"/>\n")))))))
