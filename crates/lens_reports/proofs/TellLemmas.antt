-- What is told of one file, from what its engine says, and how a run goes on from file to file.
use Rattle.std.proofs.Common.{◌≡◌, ℕ, ◌+◌, ◌<◌, inl, inr, List, [], ◌∷◌, ◌++◌, length, take, drop, map, get_or, Result, Ok, Err, false, refl, sym, ap, ◌∙◌, subst, arith}
use Rattle.std.proofs.lemmas.List.{take_more, drop_more, take-append-drop, map_push, map-append, length-map, length-take-le}
use Rattle.le_rec.specs.Sink.{SinkState}
use Rattle.lens_engines.specs.declared.judging.Judging.{Judging}
use Rattle.lens_engines.specs.Check.{CheckAsked, ChecksFile, RunsCheck}
use Rattle.lens_engines.specs.Left.{RefusesBytes}
use Rattle.lens_engines.specs.Survey.{RunsSurvey, SurveysFile}
use Rattle.lens_engines.specs.Totals.{no_totals, verdict_of_totals}
use Rattle.lens_engines.specs.declared.totals.Totals.{Totals}
use Rattle.lens_engines.specs.declared.verdict.LevelsFault.{LevelsFault}
use Rattle.lens_engines.specs.declared.verdict.LevelsFault.TheVariants as engine
use Rattle.lens_engines.specs.declared.verdict.Verdict.{Verdict}
use Rattle.std.specs.Prelude.{IfErr, IfOk}
use Rattle.lens_engines.specs.declared.object.FileRefusal.{FileRefusal}
use Rattle.lens_reports.specs.Files.{Known}
use Rattle.lens_reports.specs.Run.{LeavesLevels, RefusesFile, StopsRefusal, WritesRefusal, fault_of}
use Rattle.lens_reports.specs.Run.{ChecksBytes, StopsAt, StopsPath, SurveysBytes, TellsPath, ToldBefore, ToldTo, stop_after, survey_tally, tally_with, with_path}
use Rattle.lens_reports.specs.declared.tell.Request.{Request}
use Rattle.lens_reports.specs.declared.tell.Stop.{Stop}
use Rattle.lens_reports.specs.declared.tell.Stop.TheVariants as stop
use Rattle.lens_reports.specs.declared.tell.ReportSum.{ReportSum}
use Rattle.lens_reports.specs.declared.tell.ReportKind.TheVariants.{Check, Survey}

-- a survey that came to its end
pub surveyed : {W : Type 0} (state : W → SinkState) (path bytes : List ℕ) (judging : Judging) (out out' : W) (verdict : Verdict) (tally : ReportSum)
    → tally.verdict ≡ verdict → tally.totals ≡ no_totals → RunsSurvey state path bytes judging out out' (Ok verdict)
    → SurveysBytes path bytes judging (state out) (state out') tally × ((state out').failed ≡ false)
surveyed state path bytes judging out out' verdict tally of none (inl left) = absurd (no_err verdict left.fault left.ended)
  where
    no_err : (v : Verdict) (f : LevelsFault) → ◌≡◌ {A = Result Verdict LevelsFault} (Ok v) (Err f) → ⊥
    no_err v f same = cc
surveyed state path bytes judging out out' verdict tally of none (inr ran) = (
  record {
    file = ran.file;
    of_bytes = ran.of_bytes;
    read = ran.read;
    does = rw of ran.does.all;
    adds = none;
  },
  ran.does.all.sound,
)

-- the tally of one
pub survey_taken : (path bytes : List ℕ) (judging : Judging) (before after : SinkState) (verdict : Verdict)
    → SurveysFile path bytes judging before after (Ok verdict) → SurveysBytes path bytes judging before after (survey_tally verdict)
survey_taken path bytes judging before after verdict told =
    record { file = told.file; of_bytes = told.of_bytes; read = told.read; does = told.does.all; adds = refl }

-- a survey that didn't
pub survey_left : {W : Type 0} (state : W → SinkState) (path bytes : List ℕ) (judging : Judging) (out out' : W) (why : LevelsFault)
    → RunsSurvey state path bytes judging out out' (Err why) → LeavesLevels state Survey path bytes judging out out' (fault_of why)
survey_left state path bytes judging out out' why (inl left) = go why (subst (RefusesBytes bytes) (sym (err_same why left.fault left.ended)) left.holds)
  where
    err_same : (v w : LevelsFault) → ◌≡◌ {A = Result Verdict LevelsFault} (Err v) (Err w) → v ≡ w
    err_same v w same = cc

    go : (f : LevelsFault) → RefusesBytes bytes f → LeavesLevels state Survey path bytes judging out out' (fault_of f)
    go (engine.NoWad w) refuses = (refuses, left.untouched)
    go (engine.Write found) refuses = absurd refuses
    go engine.Memory refuses = inl (ap state left.untouched)
survey_left state path bytes judging out out' why (inr ran) = go why ran
  where
    go : (f : LevelsFault) → SurveysFile path bytes judging (state out) (state out') (Err f) → LeavesLevels state Survey path bytes judging out out' (fault_of f)
    go (engine.NoWad w) stopped = absurd stopped.does.some.stops
    go (engine.Write found) stopped = (stopped, stopped.does.some.stops.failed)
    go engine.Memory stopped = inr stopped

-- a check that came to its end
pub checked : {W : Type 0} (state : W → SinkState) (asked : CheckAsked) (bytes : List ℕ) (out out' : W) (totals : Totals) (tally : ReportSum)
    → tally.totals ≡ totals → tally.verdict ≡ verdict_of_totals totals → RunsCheck state asked bytes out out' (Ok totals)
    → ChecksBytes asked.most asked.form asked.path bytes asked.judging (state out) (state out') tally × ((state out').failed ≡ false)
checked state asked bytes out out' totals tally of says (inl left) = absurd (no_err totals left.fault left.ended)
  where
    no_err : (v : Totals) (f : LevelsFault) → ◌≡◌ {A = Result Totals LevelsFault} (Ok v) (Err f) → ⊥
    no_err v f same = cc
checked state asked bytes out out' totals tally of says (inr ran) = (
  record {
    file = ran.file;
    of_bytes = ran.of_bytes;
    read = ran.read;
    does = rw of ran.does.all;
    says = rw of says;
  },
  ran.does.all.sound,
)

-- a check that didn't
pub check_left : {W : Type 0} (state : W → SinkState) (asked : CheckAsked) (bytes : List ℕ) (out out' : W) (why : LevelsFault)
    → RunsCheck state asked bytes out out' (Err why) → LeavesLevels state (Check asked.most asked.form) asked.path bytes asked.judging out out' (fault_of why)
check_left state asked bytes out out' why (inl left) = go why (subst (RefusesBytes bytes) (sym (err_same why left.fault left.ended)) left.holds)
  where
    err_same : (v w : LevelsFault) → ◌≡◌ {A = Result Totals LevelsFault} (Err v) (Err w) → v ≡ w
    err_same v w same = cc

    go : (f : LevelsFault) → RefusesBytes bytes f → LeavesLevels state (Check asked.most asked.form) asked.path bytes asked.judging out out' (fault_of f)
    go (engine.NoWad w) refuses = (refuses, left.untouched)
    go (engine.Write found) refuses = absurd refuses
    go engine.Memory refuses = inl (ap state left.untouched)
check_left state asked bytes out out' why (inr ran) = go why ran
  where
    go : (f : LevelsFault) → ChecksFile asked bytes (state out) (state out') (Err f) → LeavesLevels state (Check asked.most asked.form) asked.path bytes asked.judging out out' (fault_of f)
    go (engine.NoWad w) stopped = absurd stopped.does.some
    go (engine.Write found) stopped = (stopped, stopped.does.some.failed)
    go engine.Memory stopped = inr stopped

-- a refused file was told
pub refused_told : (known : Known) (asked : Request) (path : List ℕ) (refusal : FileRefusal) (out out' errors errors' : SinkState) (result : Result ReportSum Stop)
    → RefusesFile known asked.word refusal → IfOk result (WritesRefusal asked.word path refusal out out' errors errors') → IfOk result (TellsPath known asked path out out' errors errors')
refused_told known asked path refusal out out' errors errors' (Ok tally) why writes = inr (record { refusal = refusal; why = why; writes = writes })
refused_told known asked path refusal out out' errors errors' (Err stop) why writes = tt

-- a refused file was told in part
pub refused_stopped : (known : Known) (asked : Request) (path : List ℕ) (refusal : FileRefusal) (out out' errors errors' : SinkState) (result : Result ReportSum Stop)
    → RefusesFile known asked.word refusal → IfErr result (StopsRefusal asked.word path refusal out out' errors errors')
    → IfErr result (StopsPath known asked path out out' errors errors')
refused_stopped known asked path refusal out out' errors errors' (Ok tally) why stops = tt
refused_stopped known asked path refusal out out' errors errors' (Err stop.Memory) why stops = absurd stops
refused_stopped known asked path refusal out out' errors errors' (Err (stop.Output found)) why stops = inr (record { refusal = refusal; why = why; stops = stops })
refused_stopped known asked path refusal out out' errors errors' (Err stop.Errors) why stops = inr (record { refusal = refusal; why = why; stops = stops })

-- all paths before one were told
pub told_before : {P : Type 0} (path_of : P → List ℕ) (paths : List P) (i : ℕ) (d : P) → i < length paths
    → (known : ℕ → List ℕ → Known) (asked : Request) (out errors out' errors' : SinkState) (sum : ReportSum)
    → ToldTo known asked out errors (map path_of (take i paths)) out' errors' sum
    → ToldBefore known asked (map path_of paths) out errors (path_of (get_or paths i d)) out' errors' sum
told_before path_of paths i d within known asked out errors out' errors' sum so_far = record {
  before = map path_of (take i paths);
  after = map path_of (drop (i + 1) paths);
  stands =
      ap (map path_of) (sym (take-append-drop i paths) ∙ ap (λ xs. take i paths ++ xs) (drop_more paths i d within))
      ∙ map-append path_of (take i paths) (get_or paths i d ∷ drop (i + 1) paths);
  told = so_far;
}

module _ {P : Type 0} (path_of : P → List ℕ) (paths : List P) (i : ℕ) (d : P) (within : i < length paths) (known : ℕ → List ℕ → Known) (asked : Request) (out errors between between_errors after after_errors : SinkState) where
  counted : i ≡ length (map path_of (take i paths))
  counted = sym (length-map (take i paths) path_of ∙ length-take-le i paths (omega arith))

  -- one path more
  pub told_more : (sum tally : ReportSum) → ToldTo known asked out errors (map path_of (take i paths)) between between_errors sum
      → TellsPath (known i (path_of (get_or paths i d))) asked (path_of (get_or paths i d)) between after between_errors after_errors tally
      → ToldTo known asked out errors (map path_of (take (i + 1) paths)) after after_errors (tally_with sum tally)
  told_more sum tally so_far one =
      let e : map path_of (take i paths) ++ path_of (get_or paths i d) ∷ [] ≡ map path_of (take (i + 1) paths) =
      sym (map_push path_of (take i paths) (get_or paths i d)) ∙ ap (map path_of) (sym (take_more paths i d within)) in
      subst (λ ps. ToldTo known asked out errors ps after after_errors (tally_with sum tally)) e
      (with_path (map path_of (take i paths)) between between_errors sum (path_of (get_or paths i d)) after after_errors tally so_far
      (subst (λ n. TellsPath (known n (path_of (get_or paths i d))) asked (path_of (get_or paths i d)) between after between_errors after_errors tally) counted one))

  -- it stopped at a path
  pub stopped_at : (sum : ReportSum) (at_path : Stop) → ToldTo known asked out errors (map path_of (take i paths)) between between_errors sum
      → StopsPath (known i (path_of (get_or paths i d))) asked (path_of (get_or paths i d)) between after between_errors after_errors at_path
      → StopsAt known asked (map path_of paths) out errors after after_errors (stop_after sum.verdict at_path)
  unfolding told_before
  stopped_at sum at_path so_far stops = record {
    path = path_of (get_or paths i d);
    out_before = between;
    errors_before = between_errors;
    found = sum;
    told = told_before path_of paths i d within known asked out errors between between_errors sum so_far;
    at_path = at_path;
    stops = subst (λ n. StopsPath (known n (path_of (get_or paths i d))) asked (path_of (get_or paths i d)) between after between_errors after_errors at_path) counted stops;
    is = refl;
  }
