-- What the run of `cut` tells, from how its engine ended.
use Rattle.std.proofs.Common.{◌≡◌, ℕ, List, [], Option, Result, Ok, Err, inl, inr, refl, sym, subst}
use Rattle.le_rec.specs.Sink.{SinkState}
use Rattle.line_io.specs.Writes.{Writes}
use Rattle.line_io.specs.declared.fault.IoFault.{IoFault}
use Rattle.line_io.proofs.WriteLemmas.{line_stopped}
use Rattle.lens_engines.specs.Cut.{RefusesCut, RunsCut, cut_end}
use Rattle.lens_engines.specs.declared.cut.CutFault.{CutFault}
use Rattle.lens_engines.specs.declared.cut.CutFault.TheVariants as fault
use Rattle.lens_engines.specs.declared.verdict.Verdict.{Verdict}
use Rattle.lens_engines.specs.declared.verdict.Verdict.TheVariants.{Clean}
use Rattle.lens_reports.specs.CutJob.{CutsOut, IsOfFile}
use Rattle.lens_reports.specs.Job.{TellsRest, output_end}
use Rattle.lens_reports.specs.Output.{is_closed, output_state}
use Rattle.lens_reports.specs.declared.end.End.{End}
use Rattle.lens_reports.specs.declared.output.Output.{Output}
use Rattle.lens_reports.proofs.JobLemmas.{rest_after}

module _ {W : Type 0} (contents : W → Option (List ℕ)) (bytes : List ℕ) (entry : ℕ) (old between : Output W) (errors : SinkState) where
  -- the level was cut out, and then the rest was written
  pub cut_written : (new : Output W) (x : Unit {0}) (result : Result Verdict End) → RunsCut (output_state contents) bytes entry old between (Ok x)
      → TellsRest contents [] Clean between new result → CutsOut bytes entry contents old new errors errors result
  cut_written new x result (inl left) rest = absurd (no_err left.fault left.ended)
    where
      no_err : (f : CutFault) → ◌≡◌ {A = Result (Unit {0}) CutFault} (Ok x) (Err f) → ⊥
      no_err f same = cc
  cut_written new x result (inr wrote) rest = go wrote.outcome wrote.writes wrote.ended
    where
      go : (outcome : Result (Unit {0}) IoFault) → Writes (output_state contents old) (output_state contents between) wrote.text outcome → ◌≡◌ {A = Result (Unit {0}) CutFault} (Ok x) (cut_end outcome)
          → CutsOut bytes entry contents old new errors errors result
      go (Ok y) writes ended = record { text = wrote.text; is = wrote.is; silent = refl; rest = rest_after contents wrote.text Clean old between new result writes.takes.whole rest }
      go (Err e) writes ended = absurd (cc)

  -- a write failed
  pub cut_stopped : (why : End) → RunsCut (output_state contents) bytes entry old between (Err fault.Write) → why ≡ output_end (is_closed between) Clean
      → CutsOut bytes entry contents old between errors errors (Err why)
  cut_stopped why (inl left) ended = absurd (never (subst (RefusesCut bytes entry) (sym (err_same left.fault left.ended)) left.holds))
    where
      err_same : (f : CutFault) → ◌≡◌ {A = Result (Unit {0}) CutFault} (Err fault.Write) (Err f) → fault.Write ≡ f
      err_same f same = cc

      never : RefusesCut bytes entry fault.Write → ⊥
      never refuses = refuses.refuses
  cut_stopped why (inr wrote) ended = go wrote.outcome wrote.writes wrote.ended
    where
      go : (outcome : Result (Unit {0}) IoFault) → Writes (output_state contents old) (output_state contents between) wrote.text outcome → ◌≡◌ {A = Result (Unit {0}) CutFault} (Err fault.Write) (cut_end outcome)
          → CutsOut bytes entry contents old between errors errors (Err why)
      go (Ok y) writes same = absurd (cc)
      go (Err e) writes same = record {
        text = wrote.text;
        is = wrote.is;
        silent = refl;
        rest = (ended, writes.takes.front, line_stopped (output_state contents old) (output_state contents between) wrote.text e writes);
      }

  -- nothing was cut out, and nothing written
  pub cut_refused : (why : CutFault) → RunsCut (output_state contents) bytes entry old between (Err why) → (why ≡ fault.Write → ⊥)
      → RefusesCut bytes entry why × (between ≡ old)
  cut_refused why (inl left) other = (subst (RefusesCut bytes entry) (sym (err_same left.fault left.ended)) left.holds, left.untouched)
    where
      err_same : (f : CutFault) → ◌≡◌ {A = Result (Unit {0}) CutFault} (Err why) (Err f) → why ≡ f
      err_same f same = cc
  cut_refused why (inr wrote) other = go wrote.outcome wrote.ended
    where
      go : (outcome : Result (Unit {0}) IoFault) → ◌≡◌ {A = Result (Unit {0}) CutFault} (Err why) (cut_end outcome) → RefusesCut bytes entry why × (between ≡ old)
      go (Ok y) same = absurd (cc)
      go (Err e) same = let is : why ≡ fault.Write = cc in absurd (other is)

  -- there was no memory, and nothing was written
  pub cut_wanting : RunsCut (output_state contents) bytes entry old between (Err fault.Memory) → between ≡ old
  cut_wanting runs = (cut_refused fault.Memory runs other).1
    where
      other : fault.Memory ≡ fault.Write → ⊥
      other same = cc

-- what is told is of the file
pub of_file : (why : CutFault) → (why ≡ fault.Memory → ⊥) → IsOfFile why
of_file (fault.NoWad w) other = tt
of_file (fault.NoLevel entry) other = tt
of_file (fault.Level label why) other = tt
of_file fault.Memory other = absurd (other refl)
of_file fault.Write other = tt
