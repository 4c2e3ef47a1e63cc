-- Laws of the table (ours).
use Rattle.std.specs.Prelude.{◌≡◌, true, ℕ, ◌+◌, ◌-◌, ◌<◌, ◌++◌, codes, if◌then◌else◌}
use Rattle.std.specs.Fmt.{decimal}
use Rattle.map_level.specs.Findings.{is_fault, rank}
use Rattle.map_level.specs.declared.finding.Code.{Code}
use Rattle.level_codes.specs.Codes.{class_of, code_at, code_name, code_rank, warning_rank}
use Rattle.level_codes.specs.Explanations.{explanation_of, fits_screen}
use Rattle.level_codes.specs.declared.code.ReportCode.{ReportCode}
use Rattle.level_codes.specs.declared.code.ReportCode.TheVariants.{Finding, Warning}
use Rattle.level_codes.specs.declared.code.WarningCode.{WarningCode}
use Rattle.level_codes.specs.declared.kind.Class.TheVariants as class
use Rattle.level_codes.specs.declared.table.TheConstants.{REPORT_COUNT}

-- each code stands at its rank, and at no other
pub record StandsAtItsRank (code : ReportCode) : Type 0 where
  pub few : code_rank code < REPORT_COUNT
  pub there : code_at (code_rank code) ≡ code
  pub alone : (k : ℕ) → k < REPORT_COUNT → code_at k ≡ code → k ≡ code_rank code

abbrev pub CodesStandAtTheirRanks : Type 0
CodesStandAtTheirRanks = (code : ReportCode) → StandsAtItsRank code

-- two codes that are printed alike are one
abbrev pub NamesAreDistinct : Type 0
NamesAreDistinct = (a b : ReportCode) → code_name a ≡ code_name b → a ≡ b

-- a code's name is the letter of its class, and its number from 1 among the codes of this class
pub record NamesAreNumbered : Type 0 where
  pub finding : (code : Code) → code_name (Finding code) ≡ (if is_fault code then codes "F" ++ decimal (rank code + 1) else codes "N" ++ decimal (rank code - 17))
  pub warning : (code : WarningCode) → code_name (Warning code) ≡ codes "W" ++ decimal (warning_rank code + 1)

-- the faults of the table are those among the findings, and each other finding is a note
pub record ClassesAreOfTheCodes : Type 0 where
  pub finding : (code : Code) → class_of (Finding code) ≡ (if is_fault code then class.Fault else class.Note)
  pub warning : (code : WarningCode) → class_of (Warning code) ≡ class.Warning

-- each code is told in at most eight lines of 80 columns, the one of its name among them
abbrev pub ExplanationsFitScreen : Type 0
ExplanationsFitScreen = (code : ReportCode) → fits_screen (explanation_of code) ≡ true
