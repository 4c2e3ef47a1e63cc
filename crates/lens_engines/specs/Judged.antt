-- A level that was looked over (ours).
use Rattle.std.specs.Prelude.{◌≡◌, ℕ, List, Option}
use Rattle.map_level.specs.Level.{Level}
use Rattle.wad_dir.specs.Wad.{Wad}
use Rattle.lens_engines.specs.ReportCounts.{AreReportCounts}
use Rattle.lens_engines.specs.Unlooked.{AreUnlookedFor}
use Rattle.level_codes.specs.declared.set.CodeSet.{CodeSet}
use Rattle.lens_engines.specs.Warned.{AreAskedFor, Warned}
use Rattle.lens_engines.specs.declared.judging.Judging.{Judging}

-- a level, the report on its warnings, how often each code is told of it, and which warnings weren't looked for
pub record JudgedLevel : Type 0 where
  pub level : Level
  pub warned : List Warned
  pub counts : List ℕ
  pub unlooked : CodeSet

-- what is told of a level as it is judged, with at most so many warnings of one code; its textures and flats are those of some files, if these are known
pub record Judges (judging : Judging) (files : Option (List Wad)) (level : Level) (most : ℕ) (judged : JudgedLevel) : Type 0 where
  pub of_level : judged.level ≡ level
  pub asked : AreAskedFor judging files level most judged.warned
  pub counts : AreReportCounts judging.ignored level judged.warned judged.counts
  pub unlooked : AreUnlookedFor judging files level judged.unlooked
