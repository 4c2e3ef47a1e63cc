-- The legend of the page (HTML, ours): what each code means that is found at some level.
use Rattle.std.specs.Prelude.{Bool, false, List, [], ◌∷◌, codes, filter, map, nat_lt, ℕ, if◌then◌else◌}
use Rattle.std.specs.List.{list_any}
use Rattle.level_codes.specs.Codes.{class_of, code_name, meaning_of, report_order}
use Rattle.level_codes.specs.Kind.{class_name}
use Rattle.level_codes.specs.declared.code.ReportCode.{ReportCode}
use Rattle.lens_engines.specs.ReportCounts.{count_of}
use Rattle.lens_engines.specs.declared.surveyed.Surveyed.{Surveyed}
use Rattle.lens_engines.specs.declared.surveyed.Surveyed.TheVariants as surveyed
use Rattle.lens_texts.specs.Parts.{joined}
use Rattle.atlas_page.specs.declared.row.Row.{Row}

-- a code is found at a level
abbrev pub found_has : ReportCode → Surveyed → Bool
found_has code (surveyed.Judged judged) = nat_lt 0 (count_of judged.counts code)
found_has code (surveyed.Unjudged unjudged) = false

-- a code is found at some level
abbrev pub is_found : List Row → ReportCode → Bool
is_found rows code = list_any (λ row. found_has code row.found) rows

-- `<li class="{class}"><b>{code}</b> {meaning}</li>`
abbrev pub legend_parts : ReportCode → List (List ℕ)
legend_parts code =
    codes "<li class=\"" ∷ class_name (class_of code) ∷ codes "\"><b>" ∷ code_name code ∷ codes "</b> " ∷ meaning_of code ∷ codes "</li>\n" ∷ []

abbrev pub legend_item : ReportCode → List ℕ
legend_item code = joined (legend_parts code)

-- of a code that isn't found, nothing
abbrev pub legend_code : List Row → ReportCode → List ℕ
legend_code rows code = if is_found rows code then legend_item code else []

-- the codes that are found, in the order of a report
abbrev pub legend_part : List Row → List ℕ
legend_part rows = joined (codes "<ul class=\"legend\">\n" ∷ joined (map legend_item (filter (is_found rows) report_order)) ∷ codes "</ul>\n" ∷ [])
