-- How a line from one vertex to another is drawn, and a ring about one (SVG 1.1, section 8.3).
use Rattle.std.specs.Prelude.{ℕ, List, ◌++◌, codes}
use Rattle.std.specs.Fmt.{signed_decimal}
use Rattle.le_rec.specs.declared.records.Vertex.{Vertex}
use Rattle.map_cells.specs.declared.ends.Ends.{Ends}
use Rattle.map_picture.specs.declared.paths.Shape.{Shape}
use Rattle.map_picture.specs.declared.paths.Shape.TheVariants.{Line, Ring}

-- `M{ax} {ay}L{bx} {by}`, before other bytes
abbrev pub path_text : Ends → List ℕ → List ℕ
path_text ends rest =
    codes "M" ++ (signed_decimal ends.from.x ++ (codes " " ++ (signed_decimal ends.from.y
    ++ (codes "L" ++ (signed_decimal ends.to.x ++ (codes " " ++ (signed_decimal ends.to.y ++ rest)))))))

-- a ring of 24 map units about a vertex, before other bytes: `M{x} {y}m-24 0a24 24 0 1 0 48 0a24 24 0 1 0-48 0`
abbrev pub ring_text : Vertex → List ℕ → List ℕ
ring_text at rest =
    codes "M" ++ (signed_decimal at.x ++ (codes " " ++ (signed_decimal at.y
    ++ (codes "m-24 0a24 24 0 1 0 48 0a24 24 0 1 0-48 0" ++ rest))))

-- a line or a ring, before other bytes
abbrev pub shape_text : Shape → List ℕ → List ℕ
shape_text (Line ends) rest = path_text ends rest
shape_text (Ring at) rest = ring_text at rest

-- `<path class="{class}" d="{shape}"><title>`
abbrev pub shape_part : List ℕ → Shape → List ℕ
shape_part name shape = codes "<path class=\"" ++ (name ++ (codes "\" d=\"" ++ shape_text shape (codes "\"><title>")))
