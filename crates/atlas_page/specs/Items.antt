-- Items of the page's lists (HTML, ours): a number with what it counts, and a code with how many there are of it.
use Rattle.std.specs.Prelude.{ℕ, List, [], ◌∷◌, ◌++◌, codes, filter, map, nat_lt, if◌then◌else◌}
use Rattle.std.specs.Fmt.{decimal}
use Rattle.level_codes.specs.Codes.{class_of, code_name, report_order}
use Rattle.level_codes.specs.Kind.{class_name}
use Rattle.level_codes.specs.declared.code.ReportCode.{ReportCode}
use Rattle.lens_engines.specs.ReportCounts.{count_of}
use Rattle.lens_engines.specs.declared.tables.Tables.{Tables}

-- `<li><b>{number}</b> {what}</li>`
unfoldable pub number_item : List ℕ → ℕ → List ℕ
number_item what number = codes "<li><b>" ++ (decimal number ++ (codes "</b> " ++ (what ++ codes "</li>\n")))

-- the eight tables, each with how many records it has
abbrev pub table_items : Tables → List (List ℕ)
table_items tables =
    number_item (codes "things") tables.things
    ∷ number_item (codes "linedefs") tables.linedefs
    ∷ number_item (codes "sidedefs") tables.sidedefs
    ∷ number_item (codes "vertexes") tables.vertexes
    ∷ number_item (codes "segs") tables.segs
    ∷ number_item (codes "ssectors") tables.ssectors
    ∷ number_item (codes "nodes") tables.nodes
    ∷ number_item (codes "sectors") tables.sectors
    ∷ []

-- `<li class="{class}">{code} &times; {count}</li>`
unfoldable pub code_item : ReportCode → ℕ → List ℕ
code_item code count =
    codes "<li class=\"" ++ (class_name (class_of code)
    ++ (codes "\">" ++ (code_name code ++ (codes " &times; " ++ (decimal count ++ codes "</li>\n")))))

-- of a code of which there are none, nothing
abbrev pub code_part : List ℕ → ReportCode → List ℕ
code_part counts code = if nat_lt 0 (count_of counts code) then code_item code (count_of counts code) else []

-- the codes of which there are any, in the order of a report
abbrev pub code_items : List ℕ → List (List ℕ)
code_items counts = map (λ code. code_item code (count_of counts code)) (filter (λ code. nat_lt 0 (count_of counts code)) report_order)
