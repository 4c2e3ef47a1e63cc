-- What is told of files that should hold demos.
use Rattle.std.proofs.Common.{ℕ, List, [], Option, None, Result, Ok, inl, inr, false, refl}
use Rattle.demo_engines.specs.RefusalText.{refusal_line}
use Rattle.demo_listings.specs.Differences.{Compares, Differs}
use Rattle.demo_listings.specs.declared.meaning.Compared.{Compared}
use Rattle.later_demos.specs.Demo.{Demo}
use Rattle.later_demos.specs.FaultText.{fault_text}
use Rattle.later_demos.specs.Laws.{ReadOrRefused}
use Rattle.lens_commands.specs.GivenDemo.{TellsGiven}
use Rattle.lens_reports.specs.Job.{TellsRest}
use Rattle.lens_reports.specs.Output.{output_state}
use Rattle.lens_commands.specs.declared.given.Given.{Given}
use Rattle.lens_commands.specs.declared.given.Given.TheVariants as given
use Rattle.lens_reports.specs.declared.end.End.{End}
use Rattle.lens_reports.specs.declared.output.Output.{Output}
use Rattle.lens_reports.proofs.JobLemmas.{rest_after}
use Rattle.lens_engines.specs.declared.verdict.Verdict.{Verdict}
use Rattle.lens_engines.specs.declared.verdict.Verdict.TheVariants.{Faulty}

-- of each file something is told
pub told_some : ReadOrRefused → (path : List ℕ) (file : Given) → (text : List ℕ) × TellsGiven path file text
told_some either path (given.Read bytes) = elim (either bytes.items) [
  | inl found ↦ ([], inl (found.0, found.1, refl))
  | inr found ↦ (refusal_line path None (fault_text found.0), inr (found.0, found.1, refl))
]
told_some either path (given.Unread refusal) = (_, refl)

-- a difference was told, and then the rest was written
pub difference_told : {W : Type 0} (contents : W → Option (List ℕ)) (what : Compared) (a b : Demo) (old between new : Output W) (result : Result Verdict End)
    → Compares what a b (output_state contents old) (output_state contents between) (Ok false) → TellsRest contents [] Faulty between new result
    → (text : List ℕ) × Differs what a b text × TellsRest contents text Faulty old new result
difference_told contents what a b old between new result (inl none) rest = absurd (let f : ⊥ = cc none.answered in f)
difference_told contents what a b old between new result (inr tells) rest =
    (tells.text, tells.differs, rest_after contents tells.text Faulty old between new result tells.writes.takes.whole rest)
