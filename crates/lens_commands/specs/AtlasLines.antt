-- The survey's lines of a page's rows (ours).
use Rattle.std.specs.Prelude.{◌≡◌, false, true, List, [], ◌∷◌, ◌++◌, map}
use Rattle.std.specs.Io.KnownBytes.{Appends}
use Rattle.le_rec.specs.Sink.{SinkState}
use Rattle.line_io.specs.Writes.{TakesFront}
use Rattle.atlas_page.specs.declared.row.Row.{Row}
use Rattle.lens_engines.specs.Survey.{ToldLevel, gravest, lines_of, verdict_of}
use Rattle.lens_engines.specs.Surveyed.{survey_line}
use Rattle.lens_engines.specs.declared.verdict.Verdict.{Verdict}

-- the report of a survey on a row's level
abbrev pub told_of : Row → ToldLevel
told_of row = record { line = survey_line row.path.now row.name row.entry row.found; verdict = verdict_of row.found }

-- the lines of these rows were taken
pub record TakesLines (rows : List Row) (before after : SinkState) (verdict : Verdict) : Type 0 where
  pub took : Appends before.taken after.taken (lines_of (map told_of rows))
  pub sound : after.failed ≡ false
  pub says : verdict ≡ gravest (map told_of rows)

-- those of the first rows were, and a write failed within the line of the next
pub record StopsAtLine (rows : List Row) (before after : SinkState) : Type 0 where
  pub first : List Row
  pub row : Row
  pub rest : List Row
  pub stands : rows ≡ (first ++ row ∷ []) ++ rest
  pub between : SinkState
  pub took : Appends before.taken between.taken (lines_of (map told_of first))
  pub front : TakesFront between after (told_of row).line
  pub failed : after.failed ≡ true
