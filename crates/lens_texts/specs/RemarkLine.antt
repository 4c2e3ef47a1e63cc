-- The lines of a level (ours): each begins with the file's path and the level's label.
use Rattle.std.specs.Prelude.{ℕ, ◌/◌, ◌%◌, List, [], ◌∷◌, ◌++◌, codes, nat_eq, if◌then◌else◌}
use Rattle.std.specs.Fmt.{decimal}
use Rattle.level_codes.specs.Codes.{code_name, kind_of}
use Rattle.level_codes.specs.Kind.{kind_name}
use Rattle.level_codes.specs.declared.code.ReportCode.{ReportCode}
use Rattle.level_codes.specs.declared.kind.Kind.{Kind}
use Rattle.level_codes.specs.declared.kind.Kind.TheVariants.{Block, Whole}
use Rattle.map_level.specs.Level.{Level}
use Rattle.map_tables.specs.BlockMap.{count_of, head}
use Rattle.lens_texts.specs.Label.{label_text}
use Rattle.lens_texts.specs.Place.{place_text}
use Rattle.lens_texts.specs.Remark.{remark_code, remark_index, remark_message, remark_place}
use Rattle.lens_texts.specs.ShownPath.{shown_path}
use Rattle.lens_texts.specs.declared.label.LevelLabel.{LevelLabel}
use Rattle.lens_texts.specs.declared.remark.Remark.{Remark}

-- block i of rows of so many, as ` (BX, BY)`
abbrev pub block_text : ℕ → ℕ → List ℕ → List ℕ
block_text columns i rest =
    if nat_eq columns 0 then rest else codes " (" ++ (decimal (i % columns) ++ (codes ", " ++ (decimal (i / columns) ++ (codes ")" ++ rest))))

-- the index of what is of a kind, a space before it; a whole level has none
abbrev pub index_text : Level → Kind → ℕ → List ℕ → List ℕ
index_text level Whole i rest = rest
index_text level Block i rest = block_text (count_of (head level.blockmap 2)) i rest
index_text level _ i rest = codes " " ++ (decimal i ++ rest)

-- `CODE KIND INDEX: `
abbrev pub lead_text : Level → ReportCode → ℕ → List ℕ
lead_text level code i = code_name code ++ (codes " " ++ (kind_name (kind_of code) ++ index_text level (kind_of code) i (codes ": ")))

-- `MESSAGE[, PLACE]`, before other bytes
abbrev pub message_text : Level → Remark → List ℕ → List ℕ
message_text level remark rest = remark_message level remark [] ++ place_text (remark_place level remark) rest

-- that, and the line's end
abbrev pub body_text : Level → Remark → List ℕ
body_text level remark = message_text level remark (10 ∷ [])

-- `CODE KIND INDEX: MESSAGE[, PLACE]`: what the line says behind the label
abbrev pub remark_words : Level → Remark → List ℕ
remark_words level remark = lead_text level (remark_code remark) (remark_index remark) ++ message_text level remark []

-- `PATH: LEVEL: `
abbrev pub heading_text : List ℕ → LevelLabel → List ℕ
heading_text path label = shown_path path ++ (codes ": " ++ label_text label (codes ": "))

-- that and a text, which has the line's end
abbrev pub level_line : List ℕ → LevelLabel → List ℕ → List ℕ
level_line path label text = heading_text path label ++ text

-- `PATH: LEVEL: CODE KIND INDEX: MESSAGE[, PLACE]`
abbrev pub remark_line : List ℕ → LevelLabel → Level → Remark → List ℕ
remark_line path label level remark =
    heading_text path label ++ (lead_text level (remark_code remark) (remark_index remark) ++ body_text level remark)

-- `PATH: LEVEL: CODE: N more`
abbrev pub left_line : List ℕ → LevelLabel → ReportCode → ℕ → List ℕ
left_line path label code left = level_line path label (code_name code ++ (codes ": " ++ (decimal left ++ (codes " more" ++ 10 ∷ []))))
