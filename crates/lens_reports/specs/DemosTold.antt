-- The report on a file's demos (ours): each is listed in a form, and standard error has why some aren't read.
use Rattle.std.specs.Prelude.{◌≡◌, ℕ, Bool, true, false, List, None, Result, Ok, Err, MatchBool}
use Rattle.demo_engines.specs.Demos.{DemosAsked, IsDemoTold, TellsWad, WritesTold, is_wad_file}
use Rattle.demo_engines.specs.declared.demos.DemosFault.{DemosFault}
use Rattle.demo_engines.specs.declared.demos.DemosFault.TheVariants.{NoWad, Write, Errors, Memory}
use Rattle.le_rec.specs.Sink.{SinkState}
use Rattle.wad_dir.specs.Refusal.{RefusesWad}
use Rattle.lens_engines.specs.Totals.{no_totals}
use Rattle.lens_engines.specs.declared.verdict.Verdict.{Verdict}
use Rattle.lens_engines.specs.declared.verdict.Verdict.TheVariants.{Clean, Unjudged}
use Rattle.lens_texts.specs.declared.form.Form.{Form}
use Rattle.lens_reports.specs.declared.tell.BytesFault.{BytesFault}
use Rattle.lens_reports.specs.declared.tell.BytesFault.TheVariants as fault
use Rattle.lens_reports.specs.declared.tell.ReportSum.{ReportSum}

-- what is found where all demos were read, or not
abbrev pub demos_verdict : Bool → Verdict
demos_verdict true = Clean
demos_verdict false = Unjudged

abbrev pub demos_tally : Bool → ReportSum
demos_tally all_read = record { verdict = demos_verdict all_read; totals = no_totals }

-- the demos of these bytes were reported on, as asked, all of them or up to where an end failed
abbrev pub TellsDemos : DemosAsked → List ℕ → SinkState → SinkState → SinkState → SinkState → Result Bool DemosFault → Type 0
TellsDemos asked bytes out out' errors errors' result =
    MatchBool (is_wad_file bytes) (TellsWad asked bytes out out' errors errors' result) (WritesTold (IsDemoTold asked None bytes) out out' errors errors' result)

-- the demos are answered in this form
abbrev pub answers_in : Form → List ℕ → DemosAsked
answers_in form path = record { path = path; form = form }

-- the demos of these bytes were told
pub record TellsDemosOf (form : Form) (path bytes : List ℕ) (out out' errors errors' : SinkState) (tally : ReportSum) : Type 0 where
  pub all_read : Bool
  pub told : TellsDemos (answers_in form path) bytes out out' errors errors' (Ok all_read)
  pub counts : tally ≡ demos_tally all_read

-- the output failed, and so much was found up to there
pub record StopsDemos (form : Form) (path bytes : List ℕ) (out out' errors errors' : SinkState) (found : Verdict) : Type 0 where
  pub all_read : Bool
  pub told : TellsDemos (answers_in form path) bytes out out' errors errors' (Err (Write all_read))
  pub counts : found ≡ demos_verdict all_read

-- standard error failed
abbrev pub StopsRefusals : Form → List ℕ → List ℕ → SinkState → SinkState → SinkState → SinkState → Type 0
StopsRefusals form path bytes out out' errors errors' = TellsDemos (answers_in form path) bytes out out' errors errors' (Err Errors)

-- an engine's fault, as one of a run
abbrev pub fault_of_demos : DemosFault → BytesFault
fault_of_demos (NoWad why) = fault.NoWad why
fault_of_demos (Write all_read) = fault.Output (demos_verdict all_read)
fault_of_demos Errors = fault.Errors
fault_of_demos Memory = fault.Memory

-- why not all demos of these bytes were reported on; without memory none was
abbrev pub LeavesDemos : {W E : Type 0} → (W → SinkState) → (E → SinkState) → Form → List ℕ → List ℕ → W → W → E → E → BytesFault → Type 0
LeavesDemos state state' form path bytes out out' errors errors' (fault.NoWad why) =
    (is_wad_file bytes ≡ true) × RefusesWad bytes why × (out' ≡ out) × (errors' ≡ errors)
LeavesDemos state state' form path bytes out out' errors errors' (fault.Output found) =
    StopsDemos form path bytes (state out) (state out') (state' errors) (state' errors') found × ((state out').failed ≡ true)
LeavesDemos state state' form path bytes out out' errors errors' fault.Errors =
    StopsRefusals form path bytes (state out) (state out') (state' errors) (state' errors')
LeavesDemos state state' form path bytes out out' errors errors' fault.Memory = (state out' ≡ state out) × (state' errors' ≡ state' errors)
