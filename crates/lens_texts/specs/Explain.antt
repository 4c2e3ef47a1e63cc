-- What codes mean (ours): the explanation of one, and the list of all.
use Rattle.std.specs.Prelude.{ℕ, ◌-◌, List, [], ◌∷◌, ◌++◌, Option, Some, None, codes, length, map, take}
use Rattle.level_codes.specs.Codes.{class_of, code_name, report_order, text_of}
use Rattle.level_codes.specs.Explanations.{explanation_of}
use Rattle.level_codes.specs.Kind.{class_name}
use Rattle.level_codes.specs.declared.code.ReportCode.{ReportCode}
use Rattle.lens_texts.specs.Parts.{joined}

-- `CODE: TEXT`, and the line's end
abbrev pub head_text : ReportCode → List ℕ
head_text code = code_name code ++ (codes ": " ++ (text_of code ++ 10 ∷ []))

-- that line, what the code is, what the game does with it, and what a mapper does about it
abbrev pub explanation_text : ReportCode → List ℕ
explanation_text code = (head_text code ++ (explanation_of code).what) ++ ((explanation_of code).game ++ (explanation_of code).cure)

-- a text, and spaces up to a width of at most 9, before other bytes
abbrev pub column : ℕ → List ℕ → List ℕ → List ℕ
column width text rest = text ++ (take (width - length text) (codes "         ") ++ rest)

-- the line of a code in the list: its name, its class, and what it says
abbrev pub list_line : ReportCode → List ℕ
list_line code = column 5 (code_name code) (column 9 (class_name (class_of code)) (text_of code ++ 10 ∷ []))

-- the lines of all codes, in the order of a report
abbrev pub code_lines : List (List ℕ)
code_lines = map list_line report_order

-- the explanation of a code, or the list of all
abbrev pub explained_text : Option ReportCode → List ℕ
explained_text (Some code) = explanation_text code
explained_text None = joined code_lines
