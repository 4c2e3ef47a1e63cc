-- What is found and counted at a level that was looked over is that of its entry.
use Rattle.std.proofs.Common.{◌↔◌, ℕ, List, sym, ap, ◌∙◌, subst}
use Rattle.std.specs.Prelude.{IsTrue}
use Rattle.level_codes.specs.declared.code.ReportCode.{ReportCode}
use Rattle.map_level.specs.Level.{Level}
use Rattle.map_level.specs.Opening.{IsLevelAt}
use Rattle.map_level.specs.declared.finding.Code.{Code}
use Rattle.level_codes.specs.declared.set.CodeSet.{CodeSet}
use Rattle.wad_dir.specs.Wad.{Wad}
use Rattle.lens_texts.specs.declared.remark.Remark.{Remark}
use Rattle.lens_engines.proofs.CountLemmas.{shown_kept}
use Rattle.lens_engines.specs.Failing.{HasFailing}
use Rattle.lens_engines.specs.Found.{IsFoundAt, IsFoundIn}
use Rattle.lens_engines.specs.Ignored.{HoldsUnlessIgnored}
use Rattle.lens_engines.specs.Judged.{JudgedLevel, Judges}
use Rattle.lens_engines.specs.LevelCounts.{CountsJudged, HasLines, IsCounted}
use Rattle.lens_engines.specs.LevelLines.{AreCounted, AreTold}
use Rattle.lens_engines.specs.ReportCounts.{AreReportCounts}
use Rattle.lens_engines.specs.Tables.{tables_of}
use Rattle.lens_engines.specs.Unlooked.{AreUnlookedFor}
use Rattle.lens_engines.specs.Warned.{known_files}
use Rattle.lens_engines.specs.declared.judging.Judging.{Judging}
use Rattle.lens_engines.specs.declared.level_counts.LevelCounts.{LevelCounts}

-- the counts
pub counted_at : (files : List Wad) (judging : Judging) (g most : ℕ) (level : Level) (judged : JudgedLevel) (counted : LevelCounts) → IsLevelAt files g judging.reading level
    → Judges judging (known_files judging files) level most judged → CountsJudged judging (known_files judging files) judged counted → IsCounted files judging g counted
counted_at files judging g most level judged counted there judges counts = record {
  level = level;
  there = there;
  tables = counts.tables ∙ ap tables_of judges.of_level;
  most = most;
  warned = judged.warned;
  are_warned = judges.asked;
  counts = subst (AreReportCounts judging.ignored level judged.warned) (sym counts.counts) judges.counts;
  asked = counts.asked;
  failing = subst (λ (ns : List ℕ). IsTrue counted.fails ↔ HasFailing judging ns judged.warned) (sym counts.counts) counts.failing;
  unlooked = subst (λ (codes : CodeSet). AreUnlookedFor judging (known_files judging files) level codes) (sym counts.unlooked) judges.unlooked;
  unlisted = counts.unlisted;
  drawn = subst (λ (l : Level). IsTrue counted.drawn ↔ HasLines l) judges.of_level counts.drawn;
}

-- the text
pub found_in : (text : Level → Remark → List ℕ) (left : ReportCode → ℕ → List ℕ) (most : ℕ) (judging : Judging) (files : List Wad) (g : ℕ) (level : Level) (judged : JudgedLevel) (whole : List ℕ)
    → IsLevelAt files g judging.reading level → Judges judging (known_files judging files) level most judged → IsFoundAt text left most judged whole
    → IsFoundIn text left most judging files g whole
found_in text left most judging files g level judged whole there judges is =
    let findings = judges.counts.findings in
    let told = λ (code : Code). (findings code).indexes in
    let are_told : AreTold (HoldsUnlessIgnored judging.ignored level) told = λ code. record { ascending = (findings code).ascending; exact = (findings code).exact } in
    let counted : AreCounted judged.counts told = λ code. sym (findings code).counted in
    record {
      level = level;
      there = there;
      told = told;
      are_told = are_told;
      warned = judged.warned;
      are_warned = judges.asked;
      is = rw (← judges.of_level) (is told (rw judges.of_level (λ code some. shown_kept judging.ignored level code (told code) some (are_told code))) counted);
    }
