-- The report on a level's warnings, in the form that is asked for (ours).
use Rattle.std.specs.Prelude.{ℕ, ◌-◌, List, [], ◌++◌, length, nat_eq, if◌then◌else◌}
use Rattle.std.specs.List.{flat_map}
use Rattle.level_codes.specs.declared.code.ReportCode.{ReportCode}
use Rattle.level_codes.specs.declared.code.ReportCode.TheVariants as report
use Rattle.lens_texts.specs.declared.remark.Remark.{Remark}
use Rattle.lens_texts.specs.declared.remark.Remark.TheVariants as remark
use Rattle.lens_engines.specs.Warned.{Warned}

-- how many remarks of a code are left out, where some are
abbrev pub more_text : (ReportCode → ℕ → List ℕ) → ReportCode → ℕ → List ℕ
more_text left code count =
    if nat_eq count 0
    then []
    else left code count

-- a code's warnings, each as its text, and how many more there are
abbrev pub warned_part : (Remark → List ℕ) → (ReportCode → ℕ → List ℕ) → Warned → List ℕ
warned_part text left warned =
    flat_map (λ w. text (remark.Warning w)) warned.cut.first
    ++ more_text left (report.Warning warned.code) (warned.cut.count - length warned.cut.first)

-- those of all codes
abbrev pub warned_text : (Remark → List ℕ) → (ReportCode → ℕ → List ℕ) → List Warned → List ℕ
warned_text text left all = flat_map (warned_part text left) all
