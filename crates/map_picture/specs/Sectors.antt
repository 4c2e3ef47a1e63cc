-- The sectors of a picture: of each the blocks of cells that show it (SVG 1.1, section 8.3), in its grey.
use Rattle.std.specs.Prelude.{ℕ, List, [], ◌∷◌, ◌++◌, codes, map}
use Rattle.std.specs.Fmt.{decimal, signed_decimal}
use Rattle.le_rec.specs.Name.{name_of, shown_name}
use Rattle.le_rec.specs.declared.records.Sector.{Sector}
use Rattle.map_cells.specs.declared.block.Block.{Block}
use Rattle.lens_texts.specs.Escape.{escaped}
use Rattle.map_picture.specs.Grey.{grey}
use Rattle.lens_texts.specs.Parts.{joined}

-- `M{column} {row}h{width}v{height}h-{width}z`
abbrev pub block_text : Block → List ℕ
block_text block =
    codes "M" ++ (decimal block.column ++ (codes " " ++ (decimal block.row ++ (codes "h" ++ (decimal block.width ++ (codes "v"
    ++ (decimal block.height ++ (codes "h-" ++ (decimal block.width ++ codes "z")))))))))

-- a stored flat's name as it is written
abbrev pub flat_text : List ℕ → List ℕ
flat_text stored = escaped (shown_name (name_of stored))

-- `<path fill="#{grey}" d="`
abbrev pub fill_text : Sector → List ℕ
fill_text sector = codes "<path fill=\"#" ++ grey sector.light (codes "\" d=\"")

-- `sector {s}: floor {h} `
abbrev pub floor_text : ℕ → Sector → List ℕ
floor_text s sector = codes "\"><title>sector " ++ (decimal s ++ (codes ": floor " ++ (signed_decimal sector.floor ++ codes " ")))

-- `, ceiling {h} `
abbrev pub ceiling_text : Sector → List ℕ
ceiling_text sector = codes ", ceiling " ++ (signed_decimal sector.ceiling ++ codes " ")

-- `, light {l}, special {s}, tag {t}, {n} cells`
abbrev pub rest_text : Sector → ℕ → List ℕ
rest_text sector cells =
    codes ", light " ++ (signed_decimal sector.light ++ (codes ", special " ++ (signed_decimal sector.special ++ (codes ", tag "
    ++ (signed_decimal sector.tag ++ (codes ", " ++ (decimal cells ++ codes " cells</title></path>\n")))))))

-- the line of a sector, which blocks and so many cells show
abbrev pub sector_line : ℕ → Sector → List Block → ℕ → List ℕ
sector_line s sector blocks cells =
    joined (fill_text sector ∷ joined (map block_text blocks) ∷ floor_text s sector ∷ flat_text sector.floor_name
    ∷ ceiling_text sector ∷ flat_text sector.ceiling_name ∷ rest_text sector cells ∷ [])
