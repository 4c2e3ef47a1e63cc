-- The rows of the page (ours): a level, with its picture where it has one.
use Rattle.std.specs.Prelude.{ℕ, Bool, true, false, not, List, [], ◌∷◌, codes, filter, fold, map, if◌then◌else◌}
use Rattle.std.specs.Fmt.{decimal}
use Rattle.le_rec.specs.Name.{shown_name}
use Rattle.lens_texts.specs.Escape.{escaped}
use Rattle.lens_texts.specs.Parts.{joined}
use Rattle.atlas_page.specs.Items.{code_items, table_items}
use Rattle.atlas_page.specs.Messages.{messages_part}
use Rattle.atlas_page.specs.PictureName.{picture_name}
use Rattle.atlas_page.specs.Text.{path_text}
use Rattle.atlas_page.specs.declared.row.Row.{Row}
use Rattle.lens_texts.specs.FormatLine.{format_text}
use Rattle.lens_texts.specs.declared.unread.Unread.{Unread}
use Rattle.lens_texts.specs.LevelObject.{format_name}
use Rattle.lens_engines.specs.Survey.{verdict_of_level}
use Rattle.lens_engines.specs.Surveyed.{format_of, is_drawn}
use Rattle.lens_engines.specs.Totals.{no_totals, totals_of, totals_with, verdict_of_totals}
use Rattle.lens_engines.specs.declared.level_counts.LevelCounts.{LevelCounts}
use Rattle.lens_engines.specs.declared.surveyed.Surveyed.{Surveyed}
use Rattle.lens_engines.specs.declared.surveyed.Surveyed.TheVariants as surveyed
use Rattle.lens_engines.specs.declared.totals.Totals.{Totals}
use Rattle.lens_engines.specs.declared.verdict.Verdict.{Verdict}
use Rattle.lens_engines.specs.declared.verdict.Verdict.TheVariants.{Clean, Unjudged, Faulty}

-- the totals of all levels
abbrev pub totals_of_rows : List Row → Totals
totals_of_rows rows = fold (λ sum row. totals_with sum (totals_of row.found)) no_totals rows

-- how a row is marked
abbrev pub mark : Verdict → List ℕ
mark Clean = codes "sound"
mark Unjudged = codes "unread"
mark Faulty = codes "faulty"

-- whether a verdict is that of a fault
abbrev pub tells_fault : Verdict → Bool
tells_fault Faulty = true
tells_fault Unjudged = false
tells_fault Clean = false

-- a level with a fault, or one that lacks a lump
abbrev pub is_faulty : Row → Bool
is_faulty row = tells_fault (verdict_of_totals (totals_of row.found))

-- the picture, within a link to it
abbrev pub link_parts : Row → List (List ℕ)
link_parts row =
    codes "<a class=\"map\" href=\"" ∷ picture_name row.file row.entry ∷ codes "\"><img loading=\"lazy\" src=\""
    ∷ picture_name row.file row.entry ∷ codes "\" alt=\"map of " ∷ escaped (shown_name row.name) ∷ codes "\"></a>\n" ∷ []

-- or that there is none
abbrev pub picture_part : Row → List ℕ
picture_part row = if is_drawn row.found then joined (link_parts row) else codes "<p class=\"map\">no picture</p>\n"

-- where the level lies: its file's path, its entry and its format
abbrev pub where_parts : Row → List (List ℕ)
where_parts row =
    codes "<p class=\"where\">" ∷ path_text row.path.now ∷ codes " <span>entry " ∷ decimal row.entry ∷ codes ", "
    ∷ format_name (format_of row.found) ∷ codes "</span></p>\n" ∷ []

-- `sound` where nothing fails
abbrev pub sound_item : LevelCounts → List ℕ
sound_item judged = if tells_fault (verdict_of_level judged) then [] else codes "<li class=\"sound\">sound</li>\n"

-- what was found at a level of Doom's format: the codes of which there are any, the first messages by their items, and how large its tables are
abbrev pub judged_parts : LevelCounts → List ℕ → List (List ℕ)
judged_parts judged messages =
    codes "<ul class=\"found\">\n" ∷ sound_item judged ∷ joined (code_items judged.counts) ∷ codes "</ul>\n" ∷ messages_part messages
    ∷ codes "<ul class=\"counts\">\n" ∷ joined (table_items judged.tables) ∷ codes "</ul>\n" ∷ []

-- why another isn't judged
abbrev pub unjudged_parts : Unread → List (List ℕ)
unjudged_parts unread = codes "<p class=\"told\">" ∷ format_text unread ∷ codes "</p>\n" ∷ []

-- what was found at a level
abbrev pub found_part : Surveyed → List ℕ → List ℕ
found_part (surveyed.Judged judged) messages = joined (judged_parts judged messages)
found_part (surveyed.Unjudged unjudged) messages = joined (unjudged_parts unjudged.unread)

-- a row
abbrev pub row_parts : Row → List (List ℕ)
row_parts row =
    codes "<li class=\"" ∷ mark (verdict_of_totals (totals_of row.found)) ∷ codes "\">\n" ∷ picture_part row
    ∷ codes "<div>\n<h2>" ∷ escaped (shown_name row.name) ∷ codes "</h2>\n" ∷ joined (where_parts row) ∷ found_part row.found row.messages.items.items
    ∷ codes "</div>\n</li>\n" ∷ []

abbrev pub row_text : Row → List ℕ
row_text row = joined (row_parts row)

-- a row, if it is of those with a fault or of the others, as asked
abbrev pub row_part : Bool → Row → List ℕ
row_part true row = if is_faulty row then row_text row else []
row_part false row = if not (is_faulty row) then row_text row else []

-- the rows of the levels with a fault, and of the others, each in their order
abbrev pub faulty_rows : List Row → List ℕ
faulty_rows rows = joined (map row_text (filter is_faulty rows))

abbrev pub other_rows : List Row → List ℕ
other_rows rows = joined (map row_text (filter (λ row. not (is_faulty row)) rows))
