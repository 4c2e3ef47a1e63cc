-- The linedefs of a picture (ours): those with two sides in one path, the others in another.
use Rattle.std.specs.Prelude.{ℕ, negsuc, Bool, true, false, not, List, [], ◌∷◌, codes, if◌then◌else◌}
use Rattle.std.specs.Option.{option_map_or}
use Rattle.std.specs.Ordering.{int_eq}
use Rattle.le_rec.specs.declared.records.LineDef.{LineDef}
use Rattle.map_level.specs.Level.{Level}
use Rattle.map_cells.specs.Ends.{linedef_ends}
use Rattle.lens_texts.specs.Parts.{joined, numbered}
use Rattle.map_picture.specs.Paths.{path_text}

-- its word for the back sidedef isn't -1, which the wide reading has as 65535
abbrev pub has_back : LineDef → Bool
has_back linedef = not (int_eq linedef.side1 (negsuc 0))

-- the line of linedef i, if its two vertexes are there
abbrev pub linedef_path : Level → ℕ → List ℕ
linedef_path level i = option_map_or (λ ends. path_text ends []) (linedef_ends level i) []

-- the line of linedef i, if it is of the two-sided ones or of the others, as asked
abbrev pub line_part : Level → Bool → ℕ → LineDef → List ℕ
line_part level true i linedef = if has_back linedef then linedef_path level i else []
line_part level false i linedef = if has_back linedef then [] else linedef_path level i

-- `t` for those with two sides, `w` for walls
abbrev pub line_class : Bool → List ℕ
line_class true = codes "<path class=\"t\" d=\""
line_class false = codes "<path class=\"w\" d=\""

-- `<path class="{class}" d="{linedefs}"/>`
abbrev pub lines_line : Level → Bool → List ℕ
lines_line level two_sided =
    joined (line_class two_sided ∷ joined (numbered (line_part level two_sided) 0 level.linedefs.records) ∷ codes "\"/>\n" ∷ [])
