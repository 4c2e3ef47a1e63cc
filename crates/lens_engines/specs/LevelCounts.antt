-- What a survey counts at a level of Doom's format (ours).
use Rattle.std.specs.Prelude.{◌≡◌, ◌↔◌, ℕ, IsTrue, List, Option}
use Rattle.le_rec.specs.declared.records.Vertex.{Vertex}
use Rattle.map_cells.specs.Ends.{IsEnd}
use Rattle.map_level.specs.Level.{Level}
use Rattle.map_level.specs.Opening.{IsLevelAt}
use Rattle.wad_dir.specs.Wad.{Wad}
use Rattle.lens_engines.specs.Failing.{HasFailing}
use Rattle.lens_engines.specs.Judged.{JudgedLevel}
use Rattle.lens_engines.specs.ReportCounts.{AreReportCounts}
use Rattle.lens_engines.specs.Tables.{tables_of}
use Rattle.lens_engines.specs.Unlisted.{AreUnlisted}
use Rattle.lens_engines.specs.Unlooked.{AreUnlookedFor}
use Rattle.lens_engines.specs.Warned.{AreAskedFor, Warned, known_files}
use Rattle.lens_engines.specs.declared.judging.Judging.{Judging}
use Rattle.lens_engines.specs.declared.level_counts.LevelCounts.{LevelCounts}

-- a linedef has both of its vertexes, so there is something to draw
abbrev pub HasLines : Level → Type 0
HasLines level = (v : Vertex) × IsEnd level v

-- these are counted at a level that was looked over; its textures and flats are those of some files, if these are known
pub record CountsJudged (judging : Judging) (files : Option (List Wad)) (judged : JudgedLevel) (counted : LevelCounts) : Type 0 where
  pub tables : counted.tables ≡ tables_of judged.level
  pub counts : counted.counts ≡ judged.counts
  pub asked : counted.warnings ≡ judging.warnings
  pub failing : IsTrue counted.fails ↔ HasFailing judging judged.counts judged.warned
  pub unlooked : counted.unlooked ≡ judged.unlooked
  pub unlisted : AreUnlisted judging.ignored files counted.unlisted
  pub drawn : IsTrue counted.drawn ↔ HasLines judged.level

-- these are counted at the level that starts at an entry: what its audit finds and, if they are asked for, its warnings, without the ignored codes
pub record IsCounted (files : List Wad) (judging : Judging) (g : ℕ) (counted : LevelCounts) : Type 0 where
  pub level : Level
  pub there : IsLevelAt files g judging.reading level
  pub tables : counted.tables ≡ tables_of level
  pub most : ℕ
  pub warned : List Warned
  pub are_warned : AreAskedFor judging (known_files judging files) level most warned
  pub counts : AreReportCounts judging.ignored level warned counted.counts
  pub asked : counted.warnings ≡ judging.warnings
  pub failing : IsTrue counted.fails ↔ HasFailing judging counted.counts warned
  pub unlooked : AreUnlookedFor judging (known_files judging files) level counted.unlooked
  pub unlisted : AreUnlisted judging.ignored (known_files judging files) counted.unlisted
  pub drawn : IsTrue counted.drawn ↔ HasLines level
