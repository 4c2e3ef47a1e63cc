-- What a run of a job tells, from what was told of its paths and of the rest.
use Rattle.std.proofs.Common.{◌≡◌, ℕ, List, [], length, Option, Result, Ok, Err, refl, sym, subst}
use Rattle.std.proofs.KnownBytes.{Appends-kept, Appends-nil, Appends-trans}
use Rattle.std.proofs.lemmas.List.{append-nil}
use Rattle.std.specs.Io.KnownBytes.{Appends, Keeps}
use Rattle.le_rec.specs.Sink.{SinkState}
use Rattle.line_io.specs.Writes.{TakesFront, Writes}
use Rattle.line_io.proofs.WriteLemmas.{TakesFront-after}
use Rattle.line_io.specs.declared.fault.IoFault.{IoFault}
use Rattle.lens_engines.specs.declared.verdict.Verdict.{Verdict}
use Rattle.lens_reports.specs.Files.{stored}
use Rattle.lens_engines.specs.declared.unlisted.Unlisted.{Unlisted}
use Rattle.lens_reports.specs.Job.{EndsTelling, TellsAll, TellsRest, closing_line, noted_end, unlooked_line}
use Rattle.lens_reports.specs.Output.{output_state}
use Rattle.lens_reports.specs.Run.{ToldTo}
use Rattle.lens_reports.specs.declared.end.End.{End}
use Rattle.lens_reports.specs.declared.output.Output.{Output}
use Rattle.lens_reports.specs.declared.tell.ReportSum.{ReportSum}
use Rattle.lens_reports.specs.declared.tell.Request.{Request}

-- a text that was taken is a front of itself
pub whole_front : (before after : SinkState) (text : List ℕ) → Appends before.taken after.taken text → TakesFront before after text
whole_front before after text whole = record { front = text; rest = []; splits = sym (append-nil text); added = whole }

-- of a text that was written at least a front was taken
pub front_written : (before after : SinkState) (text : List ℕ) (result : Result (Unit {0}) IoFault) → Writes before after text result → TakesFront before after text
front_written before after text (Ok x) writes = whole_front before after text writes.takes.whole
front_written before after text (Err fault) writes = writes.takes.front

-- what is kept, with nothing more
pub nothing_more : (before after : Option (List ℕ)) → Keeps before after → Appends before after []
nothing_more before after kept = Appends-kept before before after [] (Appends-nil before) kept

-- the rest behind a text that was taken
pub rest_after : {W : Type 0} (contents : W → Option (List ℕ)) (text : List ℕ) (found : Verdict) (old between new : Output W) (result : Result Verdict End)
    → Appends (output_state contents old).taken (output_state contents between).taken text → TellsRest contents [] found between new result
    → TellsRest contents text found old new result
rest_after contents text found old between new (Ok verdict) whole rest = (
  rest.0,
  subst (Appends (output_state contents old).taken (output_state contents new).taken) (append-nil text)
      (Appends-trans (output_state contents old).taken (output_state contents between).taken (output_state contents new).taken text [] whole rest.1),
  rest.2,
)
rest_after contents text found old between new (Err why) whole rest = (
  rest.0,
  subst (TakesFront (output_state contents old) (output_state contents new)) (append-nil text)
      (TakesFront-after (output_state contents old) (output_state contents between) (output_state contents new) text whole rest.1),
  rest.2,
)

-- all paths were told, which are those of a job
pub tells_all : {W : Type 0} (held : List ℕ → Option (List ℕ)) (asked : Request) (paths : List (List ℕ)) (n : ℕ) (contents : W → Option (List ℕ)) (old between new : Output W) (errors between_errors errors' : SinkState)
    (tally : ReportSum) (result : Result Verdict End)
    → n ≡ length paths
    → ToldTo (stored held) asked (output_state contents old) errors paths (output_state contents between) between_errors tally
    → EndsTelling contents (closing_line asked n tally.totals) tally.totals.unlisted tally.verdict between new between_errors errors' result
    → TellsAll held asked paths contents old new errors errors' result
tells_all held asked paths n contents old between new errors between_errors errors' tally result count told rest = record {
  between = between;
  between_errors = between_errors;
  tally = tally;
  told = told;
  rest = subst (λ k. EndsTelling contents (closing_line asked k tally.totals) tally.totals.unlisted tally.verdict between new between_errors errors' result) count rest;
}

-- the rest was told, and standard error took what there was to note
pub noted : {W : Type 0} (contents : W → Option (List ℕ)) (text : List ℕ) (unlisted : Unlisted) (found verdict : Verdict) (old new : Output W) (errors errors' : SinkState)
    (outcome : Result (Unit {0}) IoFault) (result : Result Verdict End) → TellsRest contents text found old new (Ok verdict) → Writes errors errors' (unlooked_line unlisted) outcome
    → result ≡ noted_end verdict outcome → EndsTelling contents text unlisted found old new errors errors' result
noted contents text unlisted found verdict old new errors errors' outcome result rest writes ended = record { outcome = Ok verdict; rest = rest; notes = (outcome, writes, ended) }

-- or it wasn't told
pub unnoted : {W : Type 0} (contents : W → Option (List ℕ)) (text : List ℕ) (unlisted : Unlisted) (found : Verdict) (old new : Output W) (errors : SinkState)
    (why : End) (result : Result Verdict End) → TellsRest contents text found old new (Err why) → result ≡ Err why → EndsTelling contents text unlisted found old new errors errors result
unnoted contents text unlisted found old new errors why result rest ended = record { outcome = Err why; rest = rest; notes = (refl, ended) }
