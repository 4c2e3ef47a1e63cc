-- What is drawn of a level, from how its picture ended.
use Rattle.std.proofs.Common.{◌≡◌, ℕ, List, [], Option, Result, Err, refl}
use Rattle.lens_commands.specs.Picture.{DrawsWhole, IsFound}
use Rattle.lens_reports.proofs.JobLemmas.{rest_after}
use Rattle.lens_reports.specs.Job.{TellsRest, output_end}
use Rattle.lens_reports.specs.Output.{is_closed, output_state}
use Rattle.lens_reports.specs.declared.end.End.{End}
use Rattle.lens_reports.specs.declared.output.Output.{Output}
use Rattle.le_rec.specs.Sink.{SinkState}
use Rattle.map_level.specs.Level.{Level}
use Rattle.map_picture.specs.Drawing.{IsPicture, TakesSome, TakesWhole}
use Rattle.map_picture.specs.declared.draw.View.{View}
use Rattle.lens_engines.specs.declared.verdict.Verdict.{Verdict}

module _ {W : Type 0} (contents : W → Option (List ℕ)) (level : Level) (asked : View) (old between : Output W) (errors : SinkState) (found : Verdict) (finds : IsFound level found) where
  -- the picture was written, and then the rest
  pub drawn_whole : (new : Output W) (result : Result Verdict End) → TakesWhole (IsPicture level asked) (output_state contents old) (output_state contents between)
      → TellsRest contents [] found between new result → DrawsWhole level asked contents old new errors errors result
  drawn_whole new result took rest = record {
    text = took.text;
    is = took.is;
    found = found;
    finds = finds;
    rest = rest_after contents took.text found old between new result took.whole rest;
    silent = refl;
  }

  -- a write failed
  pub drawn_some : (why : End) → TakesSome (IsPicture level asked) (output_state contents old) (output_state contents between)
      → why ≡ output_end (is_closed between) found → DrawsWhole level asked contents old between errors errors (Err why)
  drawn_some why took ended = record {
    text = took.text;
    is = took.is;
    found = found;
    finds = finds;
    rest = (ended, took.front, took.failed);
    silent = refl;
  }
