-- What is found at a level, in any form (ours).
use Rattle.std.specs.Prelude.{◌≡◌, ℕ, List}
use Rattle.level_codes.specs.declared.code.ReportCode.{ReportCode}
use Rattle.map_audit.specs.Findings.{AuditHolds}
use Rattle.map_level.specs.Level.{Level}
use Rattle.map_level.specs.Opening.{IsLevelAt}
use Rattle.map_level.specs.declared.finding.Code.{Code}
use Rattle.wad_dir.specs.Wad.{Wad}
use Rattle.lens_texts.specs.declared.remark.Remark.{Remark}
use Rattle.lens_engines.specs.Ignored.{HoldsUnlessIgnored}
use Rattle.lens_engines.specs.Judged.{JudgedLevel}
use Rattle.lens_engines.specs.LevelLines.{AreCounted, AreShown, AreTold, found_text}
use Rattle.lens_engines.specs.Warned.{AreAskedFor, Warned, known_files}
use Rattle.lens_engines.specs.declared.judging.Judging.{Judging}

-- the text of what is found at a level that was looked over
abbrev pub IsFoundAt : (Level → Remark → List ℕ) → (ReportCode → ℕ → List ℕ) → ℕ → JudgedLevel → List ℕ → Type 0
IsFoundAt text left most judged whole =
    (told : Code → List ℕ) → AreShown (AuditHolds judged.level) told → AreCounted judged.counts told
    → whole ≡ found_text (text judged.level) left most told judged.warned

-- the text of what a check finds at the level that starts at an entry: at most so many findings of one code, and as many warnings, and of each code how many more
-- there are
pub record IsFoundIn (text : Level → Remark → List ℕ) (left : ReportCode → ℕ → List ℕ) (most : ℕ) (judging : Judging) (files : List Wad) (g : ℕ) (whole : List ℕ) : Type 0 where
  pub level : Level
  pub there : IsLevelAt files g judging.reading level
  pub told : Code → List ℕ
  pub are_told : AreTold (HoldsUnlessIgnored judging.ignored level) told
  pub warned : List Warned
  pub are_warned : AreAskedFor judging (known_files judging files) level most warned
  pub is : whole ≡ found_text (text level) left most told warned
