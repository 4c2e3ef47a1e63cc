-- Facts about the explanations, each by computation at each code.
use Rattle.std.proofs.Common.{◌≡◌, ℕ, ◌<◌, List, refl, sym, ap, ◌∙◌, get_or, length, map}
use Rattle.std.specs.Prelude.{replicate, true}
use Rattle.std.proofs.lemmas.List.{get_or-map, get_or-replicate, length-map}
use Rattle.level_codes.specs.Codes.{code_rank}
use Rattle.level_codes.specs.Explanations.{explained_of, explanation_at, explanation_of, explanation_table, fits_screen, unexplained}
use Rattle.level_codes.specs.declared.code.ReportCode.{ReportCode}
use Rattle.level_codes.specs.declared.explanation.Explanation.{Explanation}
use Rattle.level_codes.specs.declared.table.TheConstants.{REPORT_COUNT}
use Rattle.level_codes.proofs.CodeLemmas.{code_rank-below}

pub explanations_length : length explanation_table ≡ REPORT_COUNT
unfolding explanation_table
explanations_length = refl

-- explanations that say what is defined are as many, and say it at each rank
pub explained_length : (all : List Explanation) → map explained_of all ≡ explanation_table → length all ≡ REPORT_COUNT
explained_length all same = sym (length-map all explained_of) ∙ ap length same ∙ explanations_length

pub explained_at : (all : List Explanation) (k : ℕ) (d : Explanation) → map explained_of all ≡ explanation_table → k < REPORT_COUNT → explained_of (get_or all k d) ≡ explanation_at k
explained_at all k d same h =
    let many : length all ≡ REPORT_COUNT = explained_length all same in
    sym (get_or-map explained_of all k d unexplained (rw many h)) ∙ ap (λ table. get_or table k unexplained) same

all_fit : map fits_screen explanation_table ≡ replicate REPORT_COUNT true
unfolding explanation_table
all_fit = refl

pub explanation_fits : (code : ReportCode) → fits_screen (explanation_of code) ≡ true
explanation_fits code =
    sym (get_or-map fits_screen explanation_table (code_rank code) unexplained true (rw explanations_length (code_rank-below code)))
    ∙ ap (λ tests. get_or tests (code_rank code) true) all_fit ∙ get_or-replicate REPORT_COUNT (code_rank code) true true (code_rank-below code)
