-- The refused files of a page (ours).
use Rattle.std.specs.Prelude.{ℕ, List, [], ◌∷◌, codes, length, map, nat_eq, if◌then◌else◌}
use Rattle.lens_texts.specs.Parts.{joined}
use Rattle.atlas_page.specs.Text.{path_text}
use Rattle.atlas_page.specs.declared.refused.RefusedFile.{RefusedFile}
use Rattle.lens_engines.specs.Objects.{refusal_text}

-- a refused file, and why: `<li><b>{path}</b> {text}</li>`
abbrev pub item_parts : RefusedFile → List (List ℕ)
item_parts refused = codes "<li><b>" ∷ path_text refused.path.now ∷ codes "</b> " ∷ refusal_text refused.why ∷ codes "</li>\n" ∷ []

abbrev pub refused_item : RefusedFile → List ℕ
refused_item refused = joined (item_parts refused)

-- their list
abbrev pub list_parts : List RefusedFile → List (List ℕ)
list_parts refused = codes "<ul class=\"refused\">\n" ∷ joined (map refused_item refused) ∷ codes "</ul>\n" ∷ []

-- the list of the refused files, where there are any
abbrev pub refused_part : List RefusedFile → List ℕ
refused_part refused = if nat_eq (length refused) 0 then [] else joined (list_parts refused)
