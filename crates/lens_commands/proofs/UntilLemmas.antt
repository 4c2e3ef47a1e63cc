-- How far files were told where an atlas isn't whole.
use Rattle.std.proofs.Common.{◌≡◌, ℕ, ◌<◌, ◌≤◌, true, inl, inr, List, length, take, map, get_or, Option, Some, Result, Ok, Err, refl, subst, sym}
use Rattle.std.specs.Prelude.{IfErr}
use Rattle.std.specs.Io.KnownBytes.{Keeps}
use Rattle.le_rec.specs.Sink.{SinkState}
use Rattle.lens_engines.specs.declared.judging.Judging.{Judging}
use Rattle.lens_engines.specs.declared.object.FileRefusal.{FileRefusal}
use Rattle.lens_engines.specs.declared.verdict.Verdict.{Verdict}
use Rattle.lens_reports.specs.Files.{at_path, stored}
use Rattle.lens_reports.specs.Run.{RefusesFile, StopsRefusal, TellsPath, TellsSome, ToldTo, WantsMore, survey_tally}
use Rattle.lens_reports.specs.declared.tell.Request.{Request}
use Rattle.lens_reports.specs.declared.tell.Stop.{Stop}
use Rattle.lens_reports.specs.declared.tell.Stop.TheVariants as stop
use Rattle.lens_reports.specs.declared.tell.ReportSum.{ReportSum}
use Rattle.lens_reports.specs.declared.tell.ReportKind.TheVariants.{Survey}
use Rattle.lens_reports.proofs.TellLemmas.{survey_taken, told_before}
use Rattle.line_io.specs.declared.input.TheConstants.{MAX_READ}
use Rattle.lens_commands.specs.Atlas.{survey_of}
use Rattle.lens_commands.specs.Folder.{IsNotErrors, of_file}
use Rattle.lens_commands.specs.declared.atlas.fault.KeepFault.{KeepFault}
use Rattle.lens_commands.specs.declared.atlas.fault.KeepFault.TheVariants as file
use Rattle.lens_commands.specs.Until.{LeavesPath, LeavesRefused, LeavesSurvey, StopsAtFile, stop_fault}
use Rattle.lens_commands.specs.declared.atlas.fault.AtlasFault.{AtlasFault}
use Rattle.lens_commands.specs.declared.atlas.fault.AtlasFault.TheVariants as fault

module _ (held : Option (List ℕ)) (judging : Judging) (path : List ℕ) (out out' errors errors' : SinkState) where
  -- all of it was told
  pub left_behind : (tally : ReportSum) (why : AtlasFault) → TellsPath (at_path held) (survey_of judging) path out out' errors errors' tally → IsNotErrors why
      → LeavesPath held (survey_of judging) path out out' errors errors' why
  left_behind tally why told fault = inl (record { tally = tally; told = told; fault = fault })

  -- its survey wasn't written
  pub left_unwritten : (bytes : List ℕ) (found : Verdict) → Keeps held (Some bytes) → length bytes ≤ MAX_READ → TellsSome Survey path bytes judging out out' errors errors' found → out'.failed ≡ true
      → LeavesPath held (survey_of judging) path out out' errors errors' fault.Write
  left_unwritten bytes found are few told failed = inr (record {
    stop = stop.Output found;
    stops = inl (record { bytes = bytes; are = are; few = few; told = told; failed = failed });
    is = refl;
  })

  -- there was no memory to tell all of it
  pub left_wanting : WantsMore (at_path held) (survey_of judging) path out out' errors errors' → LeavesPath held (survey_of judging) path out out' errors errors' fault.Memory
  left_wanting wants = inr (record { stop = stop.Memory; stops = wants; is = refl })

  -- not all of its levels were added
  pub levels_left : (bytes : List ℕ) (why : KeepFault) → Keeps held (Some bytes) → length bytes ≤ MAX_READ → errors' ≡ errors
      → LeavesSurvey path bytes judging out out' why → LeavesPath held (survey_of judging) path out out' errors errors' (of_file why)
  levels_left bytes why are few silent (inl wants) =
      subst (λ w. LeavesPath held (survey_of judging) path out out' errors errors' (of_file w)) (sym wants.is)
      (left_wanting (record { answered = inl wants.untouched; silent = silent }))
  levels_left bytes why are few silent (inr (inl stopped)) =
      subst (λ w. LeavesPath held (survey_of judging) path out out' errors errors' (of_file w)) (sym stopped.is)
      (left_unwritten bytes stopped.found are few (stopped.told, silent) stopped.failed)
  levels_left bytes why are few silent (inr (inr behind)) =
      left_behind (survey_tally behind.verdict) (of_file why)
      (inl (record { bytes = bytes; are = are; few = few; told = (survey_taken path bytes judging out out' behind.verdict behind.told, silent) }))
      (record { fault = why; is = refl })

  -- it was refused, and this wasn't told to its end
  pub refused_left : (refusal : FileRefusal) (result : Result ReportSum AtlasFault) → RefusesFile (at_path held) Survey refusal
      → IfErr result (LeavesRefused path refusal out out' errors errors') → IfErr result (LeavesPath held (survey_of judging) path out out' errors errors')
  refused_left refusal (Ok tally) why left = tt
  refused_left refusal (Err e) why (inl wants) = inl (record {
    tally = wants.tally;
    told = inr (record { refusal = refusal; why = why; writes = wants.told });
    fault = record { fault = file.Memory; is = wants.is };
  })
  refused_left refusal (Err e) why (inr left) = go left.stop left.stops left.is
    where
      go : (s : Stop) → StopsRefusal Survey path refusal out out' errors errors' s → e ≡ stop_fault s → LeavesPath held (survey_of judging) path out out' errors errors' e
      go stop.Memory never is = absurd never
      go (stop.Output found) stops is = inr (record { stop = stop.Output found; stops = inr (record { refusal = refusal; why = why; stops = stops }); is = is })
      go stop.Errors stops is = inr (record { stop = stop.Errors; stops = inr (record { refusal = refusal; why = why; stops = stops }); is = is })

-- the run stopped at a file
pub stopped_at : {P : Type 0} (path_of : P → List ℕ) (paths : List P) (i : ℕ) (d : P) → i < length paths
    → (held : List ℕ → Option (List ℕ)) (asked : Request) (out errors between between_errors after after_errors : SinkState) (tally : ReportSum) (why : AtlasFault)
    → ToldTo (stored held) asked out errors (map path_of (take i paths)) between between_errors tally
    → LeavesPath (held (path_of (get_or paths i d))) asked (path_of (get_or paths i d)) between after between_errors after_errors why
    → StopsAtFile held asked (map path_of paths) out errors after after_errors why
stopped_at path_of paths i d within held asked out errors between between_errors after after_errors tally why so_far left = record {
  path = path_of (get_or paths i d);
  out_before = between;
  errors_before = between_errors;
  tally = tally;
  told = told_before path_of paths i d within (stored held) asked out errors between between_errors tally so_far;
  left = left;
}
