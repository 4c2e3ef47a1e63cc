-- The page of an atlas (HTML's living standard; its words and looks are ours).
use Rattle.std.specs.Prelude.{ℕ, List, [], ◌∷◌, ◌++◌, codes, length, nat_eq, if◌then◌else◌}
use Rattle.std.specs.Fmt.{decimal}
use Rattle.lens_texts.specs.Parts.{joined}
use Rattle.atlas_page.specs.Items.{number_item}
use Rattle.atlas_page.specs.Legend.{legend_part}
use Rattle.atlas_page.specs.Refused.{refused_part}
use Rattle.atlas_page.specs.Rows.{faulty_rows, other_rows, totals_of_rows}
use Rattle.atlas_page.specs.Style.{style_text}
use Rattle.atlas_page.specs.Text.{path_text}
use Rattle.atlas_page.specs.declared.page.PageHead.{PageHead}
use Rattle.atlas_page.specs.declared.refused.RefusedFile.{RefusedFile}
use Rattle.atlas_page.specs.declared.row.Row.{Row}
use Rattle.lens_engines.specs.Totals.{capped}
use Rattle.lens_engines.specs.declared.judging.Warnings.{Warnings}
use Rattle.lens_engines.specs.declared.judging.Warnings.TheVariants.{Unasked, Told}
use Rattle.lens_engines.specs.Unlisted.{is_none, unlisted_note}
use Rattle.lens_engines.specs.declared.totals.Totals.{Totals}
use Rattle.lens_engines.specs.declared.unlisted.Unlisted.{Unlisted}

-- `: {levels} levels in {files} files</title>`, behind the title itself
unfoldable pub title_counts : ℕ → Totals → List ℕ
title_counts files totals =
    codes ": " ++ (decimal totals.levels ++ (codes " levels in " ++ (decimal files ++ codes " files</title>\n")))

-- the day, where it is shown
abbrev pub day_parts : List ℕ → List (List ℕ)
day_parts day = codes "<p class=\"day\">" ∷ path_text day ∷ codes "</p>\n" ∷ []

abbrev pub day_part : List ℕ → List ℕ
day_part day = if nat_eq (length day) 0 then [] else joined (day_parts day)

-- how many warnings there are, where they are asked for
abbrev pub warned_item : Warnings → ℕ → List ℕ
warned_item Unasked count = []
warned_item Told count = number_item (codes "warnings") count

-- what levels and files add up to
abbrev pub total_items : ℕ → Warnings → Totals → List (List ℕ)
total_items files warnings totals =
    number_item (codes "levels") totals.levels
    ∷ number_item (codes "files") files
    ∷ number_item (codes "faults") totals.faults
    ∷ number_item (codes "notes") totals.notes
    ∷ warned_item warnings totals.warnings
    ∷ number_item (codes "not judged") (capped totals.broken totals.unread)
    ∷ []

-- which warnings weren't looked for at some level
abbrev pub unlooked_part : Unlisted → List ℕ
unlooked_part unlisted =
    if is_none unlisted then [] else (codes "<p class=\"unlooked\">" ++ (unlisted_note unlisted ++ codes "</p>\n"))

-- what stands above the levels: the title, the day where it is shown, what the levels add up to, what wasn't looked for, and what the codes mean
abbrev pub head_parts : PageHead → ℕ → Warnings → List Row → Totals → List (List ℕ)
head_parts head files warnings rows totals =
    codes "<!DOCTYPE html>\n<html lang=\"en\">\n<head>\n<meta charset=\"utf-8\">\n<meta name=\"viewport\" content=\"width=device-width, initial-scale=1\">\n"
    ∷ codes "<title>"
    ∷ path_text head.title.now
    ∷ title_counts files totals
    ∷ style_text
    ∷ codes "</head>\n<body>\n<header>\n<h1>"
    ∷ path_text head.title.now
    ∷ codes "</h1>\n"
    ∷ day_part head.day.now
    ∷ codes "<ul class=\"totals\">\n"
    ∷ joined (total_items files warnings totals)
    ∷ codes "</ul>\n"
    ∷ unlooked_part totals.unlisted
    ∷ legend_part rows
    ∷ []

-- the refused files, and the levels: those with a fault first
abbrev pub body_parts : List Row → List RefusedFile → List (List ℕ)
body_parts rows refused =
    refused_part refused ∷ codes "</header>\n<main>\n<ol>\n" ∷ faulty_rows rows ∷ other_rows rows ∷ codes "</ol>\n</main>\n</body>\n</html>\n" ∷ []

abbrev pub page_parts : PageHead → ℕ → Warnings → List Row → List RefusedFile → List (List ℕ)
page_parts head files warnings rows refused = joined (head_parts head files warnings rows (totals_of_rows rows)) ∷ joined (body_parts rows refused) ∷ []

-- the page with this title, of so many files with these levels and refused files, with warnings as they were asked for
unfoldable pub page_text : PageHead → ℕ → Warnings → List Row → List RefusedFile → List ℕ
page_text head files warnings rows refused = joined (page_parts head files warnings rows refused)
