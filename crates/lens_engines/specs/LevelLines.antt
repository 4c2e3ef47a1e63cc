-- The lines of a level (ours).
use Rattle.std.specs.Prelude.{◌≡◌, ◌↔◌, ℕ, ◌-◌, ◌<◌, Bool, List, [], ◌++◌, length, take, AllPairs, Contains, if◌then◌else◌}
use Rattle.std.specs.List.{flat_map}
use Rattle.level_codes.specs.declared.code.ReportCode.{ReportCode}
use Rattle.level_codes.specs.declared.code.ReportCode.TheVariants as report
use Rattle.map_level.specs.declared.finding.Code.{Code}
use Rattle.lens_engines.specs.Counts.{finding_order}
use Rattle.lens_engines.specs.ReportCounts.{count_of}
use Rattle.lens_texts.specs.Head.{Head}
use Rattle.lens_texts.specs.LevelText.{left_text, remark_text, wide_text}
use Rattle.lens_texts.specs.Unbuilt.{unbuilt_text}
use Rattle.lens_texts.specs.declared.remark.Remark.{Remark}
use Rattle.lens_texts.specs.declared.remark.Remark.TheVariants as remark
use Rattle.lens_engines.specs.Judged.{JudgedLevel}
use Rattle.lens_engines.specs.UnlookedText.{unlooked_part}
use Rattle.lens_engines.specs.Warned.{Warned}
use Rattle.lens_engines.specs.WarnedText.{more_text, warned_text}

-- the indexes at which something holds, ascending, and no others
pub record AreIndexes (holds : ℕ → Type 0) (indexes : List ℕ) : Type 0 where
  pub ascending : AllPairs (λ a b. a < b) indexes
  pub exact : (i : ℕ) → Contains indexes i ↔ holds i

-- for each code the indexes at which it holds
abbrev pub AreTold : (Code → ℕ → Type 0) → (Code → List ℕ) → Type 0
AreTold holds told = (code : Code) → AreIndexes (holds code) (told code)

-- the same of each code of which some are shown
abbrev pub AreShown : (Code → ℕ → Type 0) → (Code → List ℕ) → Type 0
AreShown holds told = (code : Code) → 0 < length (told code) → AreIndexes (holds code) (told code)

-- a code's findings, each as its text
abbrev pub code_lines : (Remark → List ℕ) → Code → List ℕ → List ℕ
code_lines text code indexes = flat_map (λ i. text (remark.Finding (record { code = code; index = i }))) indexes

-- the report on a code: so many of its findings at most, and how many more there are
abbrev pub code_part : (Remark → List ℕ) → (ReportCode → ℕ → List ℕ) → ℕ → Code → List ℕ → List ℕ
code_part text left most code indexes =
    code_lines text code (take most indexes)
    ++ more_text left (report.Finding code) (length indexes - most)

-- the report on all codes, in the order of a report
unfoldable pub findings_part : (Remark → List ℕ) → (ReportCode → ℕ → List ℕ) → ℕ → (Code → List ℕ) → List ℕ
findings_part text left most told = flat_map (λ code. code_part text left most code (told code)) finding_order

-- what is found at a level: the findings of all codes, and behind them the warnings
abbrev pub found_text : (Remark → List ℕ) → (ReportCode → ℕ → List ℕ) → ℕ → (Code → List ℕ) → List Warned → List ℕ
found_text text left most told warned = findings_part text left most told ++ warned_text text left warned

-- that only the wide reading finds the level sound, if that is so
abbrev pub wide_part : Head → Bool → List ℕ
wide_part head is_sound = if is_sound then wide_text head else []

-- how many indexes each code of findings has
abbrev pub AreCounted : List ℕ → (Code → List ℕ) → Type 0
AreCounted counts told = (code : Code) → length (told code) ≡ count_of counts (report.Finding code)

-- what is told of a judged level: its findings, its warnings, those that weren't looked for, and whether the wide reading alone finds it sound
abbrev pub remarks_text : Head → ℕ → JudgedLevel → (Code → List ℕ) → Bool → List ℕ
remarks_text head most judged told sound_wide =
    found_text (remark_text head judged.level) (left_text head) most told judged.warned
    ++ (unlooked_part head judged.counts judged.unlooked ++ wide_part head sound_wide)

-- the lines of a judged level: in front of these that its nodes weren't built, where a lump of a node builder is empty
abbrev pub judged_text : Head → ℕ → JudgedLevel → (Code → List ℕ) → Bool → List ℕ
judged_text head most judged told sound_wide = unbuilt_text head judged.level ++ remarks_text head most judged told sound_wide
