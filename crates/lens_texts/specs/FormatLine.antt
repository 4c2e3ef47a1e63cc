-- The line of a level that isn't judged (ours): its format, with what decides it.
use Rattle.std.specs.Prelude.{ℕ, List, [], ◌∷◌, ◌++◌, Option, Some, None, codes}
use Rattle.le_rec.specs.Name.{shown_name}
use Rattle.lens_texts.specs.LevelObject.{usual_name}
use Rattle.lens_texts.specs.declared.unread.Unread.{Unread}
use Rattle.lens_texts.specs.declared.unread.Unread.TheVariants.{Udmf, Incomplete, Hexen, Outside, Extended}
use Rattle.node_lumps.specs.Words.{broken_text}
use Rattle.node_lumps.specs.declared.broken.Broken.{Broken}

-- why extended nodes aren't judged: the reason why they are broken, or that they aren't read
abbrev pub why_text : Option Broken → List ℕ
why_text None = codes "not read"
why_text (Some why) = broken_text why

-- the text of its line, with the line's end
abbrev pub format_text : Unread → List ℕ
format_text Udmf = codes "udmf: not read" ++ 10 ∷ []
format_text (Incomplete k) = codes "incomplete: no " ++ (shown_name (usual_name k) ++ (codes " where it belongs" ++ 10 ∷ []))
format_text Hexen = codes "hexen: not read" ++ 10 ∷ []
format_text (Outside k) = codes "outside: " ++ (shown_name (usual_name k) ++ 10 ∷ [])
format_text (Extended tag why) = codes "extended nodes " ++ (tag ++ (codes ": " ++ (why_text why ++ 10 ∷ [])))
