-- Facts about the table, each by computation at each code.
use Rattle.std.proofs.Common.{◌≡◌, ℕ, ◌+◌, ◌<◌, List, [], ◌∷◌, Option, Some, None, refl, sym, ap, ◌∙◌, arith, get_or, length, map, zero-add}
use Rattle.std.specs.Prelude.{Bool, ◌-◌, ◌++◌, codes, nat_eq, nat_lt, replicate, true, if◌then◌else◌}
use Rattle.std.specs.Fmt.{decimal, digits}
use Rattle.std.specs.Cmp.Lexicographic.{pointwise}
use Rattle.std.specs.List.{range_with_len}
use Rattle.std.proofs.lemmas.Bool.{ltb-true}
use Rattle.std.proofs.lemmas.List.{get_or-map, get_or-replicate}
use Rattle.std.proofs.lemmas.List.FromFn.{get_or-range_with_len}
use Rattle.map_level.specs.Findings.{is_fault, rank}
use Rattle.map_level.specs.declared.finding.Code.{Code}
use Rattle.map_level.specs.declared.finding.Code.TheVariants.{F1}
use Rattle.level_codes.specs.Codes.{CodeRow, class_of, code_at, code_name, code_rank, code_table, no_row, row_at, small, text_of, warning_rank}
use Rattle.level_codes.specs.declared.code.ReportCode.{ReportCode}
use Rattle.level_codes.specs.declared.code.ReportCode.TheVariants.{Finding, Warning}
use Rattle.level_codes.specs.declared.code.WarningCode.{WarningCode}
use Rattle.level_codes.specs.declared.code.WarningCode.TheVariants.{W1}
use Rattle.level_codes.specs.declared.kind.Class.TheVariants as class
use Rattle.level_codes.specs.declared.table.TheConstants.{REPORT_COUNT}

-- a code stands at its rank
pub code_at-rank : (code : ReportCode) → code_at (code_rank code) ≡ code
unfolding code_table
code_at-rank (Finding F1) = refl
code_at-rank (Finding _) = refl
code_at-rank (Warning W1) = refl
code_at-rank (Warning _) = refl

pub code_rank-below : (code : ReportCode) → code_rank code < REPORT_COUNT
code_rank-below (Finding F1) = omega arith
code_rank-below (Finding _) = omega arith
code_rank-below (Warning W1) = omega arith
code_rank-below (Warning _) = omega arith

pub table_length : length code_table ≡ REPORT_COUNT
unfolding code_table
table_length = refl

-- the ranks of the table's codes are the numbers from 0 on
ranks : map (λ (row : CodeRow). code_rank row.code) code_table ≡ range_with_len 0 REPORT_COUNT
unfolding code_table
ranks = refl

pub code_rank-at : (k : ℕ) → k < REPORT_COUNT → code_rank (code_at k) ≡ k
code_rank-at k h =
    sym (get_or-map (λ (row : CodeRow). code_rank row.code) code_table k no_row 0 (rw table_length h))
    ∙ ap (λ numbers. get_or numbers k 0) ranks ∙ get_or-range_with_len 0 REPORT_COUNT k 0 h ∙ zero-add k

-- names have at most three bytes, and texts at most 32
names_fit : map (λ (row : CodeRow). nat_lt (length row.name) 4) code_table ≡ replicate REPORT_COUNT true
unfolding code_table
names_fit = refl

texts_fit : map (λ (row : CodeRow). nat_lt (length row.text) 33) code_table ≡ replicate REPORT_COUNT true
unfolding code_table
texts_fit = refl

-- what is true of each row is true at each rank
row_passes : (test : CodeRow → Bool) (k : ℕ) → map test code_table ≡ replicate REPORT_COUNT true → k < REPORT_COUNT → test (row_at k) ≡ true
row_passes test k all h =
    sym (get_or-map test code_table k no_row true (rw table_length h)) ∙ ap (λ tests. get_or tests k true) all
    ∙ get_or-replicate REPORT_COUNT k true true h

pub name-short : (code : ReportCode) → length (code_name code) < 4
name-short code =
    ltb-true _ _ (row_passes (λ row. nat_lt (length row.name) 4) (code_rank code) names_fit (code_rank-below code))

pub text-short : (code : ReportCode) → length (text_of code) < 33
text-short code =
    ltb-true _ _ (row_passes (λ row. nat_lt (length row.text) 33) (code_rank code) texts_fit (code_rank-below code))

-- the name of the code at a rank is that of its row
pub code_name-at : (k : ℕ) → k < REPORT_COUNT → code_name (code_at k) ≡ (row_at k).name
code_name-at k h = ap (λ rank. (row_at rank).name) (code_rank-at k h)

-- the first code of some rows that is printed so
abbrev code_named : List ℕ → List CodeRow → Option ReportCode
code_named name [] = None
code_named name (row ∷ rows) = if pointwise nat_eq row.name name then Some row.code else code_named name rows

named-name : (code : ReportCode) → code_named (code_name code) code_table ≡ Some code
unfolding code_table
named-name (Finding F1) = refl
named-name (Finding _) = refl
named-name (Warning W1) = refl
named-name (Warning _) = refl

-- two codes that are printed alike are one
pub same_from_name : (a b : ReportCode) → code_name a ≡ code_name b → a ≡ b
same_from_name a b same =
    let e : Some a ≡ Some b = sym (named-name a) ∙ ap (λ name. code_named name code_table) same ∙ named-name b in cc

-- a name is the letter of its code's class and a number
pub finding_name : (code : Code) → code_name (Finding code) ≡ (if is_fault code then codes "F" ++ decimal (rank code + 1) else codes "N" ++ decimal (rank code - 17))
unfolding code_table digits
finding_name F1 = refl
finding_name _ = refl

pub warning_name : (code : WarningCode) → code_name (Warning code) ≡ codes "W" ++ decimal (warning_rank code + 1)
unfolding code_table digits
warning_name W1 = refl
warning_name _ = refl

-- a finding is a fault or a note
pub finding_class : (code : Code) → class_of (Finding code) ≡ (if is_fault code then class.Fault else class.Note)
unfolding code_table
finding_class F1 = refl
finding_class _ = refl

pub warning_class : (code : WarningCode) → class_of (Warning code) ≡ class.Warning
unfolding code_table
warning_class W1 = refl
warning_class _ = refl

-- the first code of some rows that is printed so but for the size of its letters
abbrev code_spelled : List ℕ → List CodeRow → Option ReportCode
code_spelled word [] = None
code_spelled word (row ∷ rows) = if pointwise nat_eq (small row.name) word then Some row.code else code_spelled word rows

spelled-name : (code : ReportCode) → code_spelled (small (code_name code)) code_table ≡ Some code
unfolding code_table
spelled-name (Finding F1) = refl
spelled-name (Finding _) = refl
spelled-name (Warning W1) = refl
spelled-name (Warning _) = refl

-- two codes that are printed alike in small letters are one
pub same_from_small : (a b : ReportCode) → small (code_name a) ≡ small (code_name b) → a ≡ b
same_from_small a b same =
    let e : Some a ≡ Some b = sym (spelled-name a) ∙ ap (λ word. code_spelled word code_table) same ∙ spelled-name b in cc
