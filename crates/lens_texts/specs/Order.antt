-- That a level has its ten lumps in another order (ours).
use Rattle.std.specs.Prelude.{ℕ, List, [], ◌∷◌, ◌++◌, Option, Some, codes}
use Rattle.le_rec.specs.Name.{shown_name}
use Rattle.lens_texts.specs.Head.{Head, by_form}
use Rattle.lens_texts.specs.LevelObject.{usual_name}
use Rattle.lens_texts.specs.RemarkLine.{level_line}
use Rattle.lens_texts.specs.RemarkObject.{object_front}
use Rattle.lens_texts.specs.declared.label.LevelLabel.{LevelLabel}
use Rattle.lens_texts.specs.declared.unread.Unread.{Unread}
use Rattle.lens_texts.specs.declared.unread.Unread.TheVariants.{Incomplete}

-- `lumps in another order: FIRST before SECOND`, before other bytes
abbrev pub order_words : ℕ → ℕ → List ℕ → List ℕ
order_words j k rest = codes "lumps in another order: " ++ (shown_name (usual_name j) ++ (codes " before " ++ (shown_name (usual_name k) ++ rest)))

-- `PATH: LEVEL: WORDS`
abbrev pub order_line : List ℕ → LevelLabel → ℕ → ℕ → List ℕ
order_line path label j k = level_line path label (order_words j k (10 ∷ []))

-- `,"order":[FIRST,SECOND]}`
abbrev pub order_member : ℕ → ℕ → List ℕ
order_member j k = codes ",\"order\":[\"" ++ (shown_name (usual_name j) ++ (codes "\",\"" ++ (shown_name (usual_name k) ++ codes "\"]}\n")))

abbrev pub order_object : List ℕ → LevelLabel → ℕ → ℕ → List ℕ
order_object path label j k = object_front path label ++ order_member j k

-- that lump j stands before lump k
abbrev pub order_text : Head → ℕ → ℕ → List ℕ
order_text head j k = by_form head.form (order_line head.path head.label j k) (order_object head.path head.label j k)

-- of a level that lacks lump k in its place, by the lump that has this place, if all ten are there
abbrev pub order_part : Head → Unread → Option ℕ → List ℕ
order_part head (Incomplete k) (Some j) = order_text head j k
order_part head _ _ = []
