-- How often each code of a report is told of a level (ours).
use Rattle.std.specs.Prelude.{◌≡◌, ℕ, ◌<◌, ◌^◌, ◌-◌, List, drop, length, min, slice_index, sum, if◌then◌else◌}
use Rattle.std.specs.List.{slice_get}
use Rattle.std.specs.Option.{option_map_or}
use Rattle.level_codes.specs.Codes.{code_rank, warning_rank}
use Rattle.level_codes.specs.declared.code.ReportCode.{ReportCode}
use Rattle.level_codes.specs.declared.code.ReportCode.TheVariants as report
use Rattle.level_codes.specs.declared.code.WarningCode.{WarningCode}
use Rattle.level_codes.specs.declared.table.TheConstants.{REPORT_COUNT}
use Rattle.map_level.specs.Findings.{rank}
use Rattle.map_level.specs.Level.{Level}
use Rattle.map_level.specs.declared.finding.Code.{Code}
use Rattle.map_level.specs.declared.search.TheConstants.{CODE_COUNT}
use Rattle.lens_engines.specs.Counts.{IsCount}
use Rattle.lens_engines.specs.Ignored.{HoldsUnlessIgnored, ignores}
use Rattle.lens_engines.specs.Warned.{Warned}
use Rattle.level_codes.specs.declared.set.CodeSet.{CodeSet}

-- a number for each code; those of findings have 32 bits
pub record FitReport (counts : List ℕ) : Type 0 where
  pub all : length counts ≡ REPORT_COUNT
  pub few : (k : ℕ) → k < CODE_COUNT → slice_index counts k < 2 ^ 32

-- the number of a code
abbrev pub count_of : List ℕ → ReportCode → ℕ
count_of counts code = slice_index counts (code_rank code)

-- how many warnings there are of the code of a rank, by the report on them: none, where they aren't looked for
abbrev pub count_at : List Warned → ℕ → ℕ
count_at warned rank = option_map_or (λ one. one.cut.count) (slice_get warned rank) 0

-- how many of a code are told, where its findings are so many: none of an ignored code
abbrev pub told_count : List ℕ → List Warned → CodeSet → ReportCode → ℕ
told_count found warned ignored (report.Finding code) = if ignores ignored (report.Finding code) then 0 else slice_index found (rank code)
told_count found warned ignored (report.Warning code) = count_at warned (warning_rank code)

-- how many of each code are told of a level: its findings whose code isn't ignored, and its warnings by the report on them
pub record AreReportCounts (ignored : CodeSet) (level : Level) (warned : List Warned) (counts : List ℕ) : Type 0 where
  pub all : length counts ≡ REPORT_COUNT
  pub findings : (code : Code) → IsCount (HoldsUnlessIgnored ignored level code) (count_of counts (report.Finding code))
  pub warnings : (code : WarningCode) → count_of counts (report.Warning code) ≡ count_at warned (warning_rank code)

-- how many warnings there are, up to the greatest number of 64 bits
abbrev pub warning_total : List ℕ → ℕ
warning_total counts = min (sum (drop CODE_COUNT counts)) (2 ^ 64 - 1)
