-- Reports on files over base files (ours): each file is reported on in order, and a check ends with its totals.
use Rattle.std.specs.Prelude.{◌≡◌, ◌⊎◌, ℕ, List, drop, length, take}
use Rattle.std.specs.Io.KnownBytes.{Appends}
use Rattle.le_rec.specs.Sink.{SinkState}
use Rattle.lens_engines.specs.Rules.{IsOver}
use Rattle.lens_engines.specs.declared.judging.Judging.{Judging}
use Rattle.lens_engines.specs.declared.judging.Rules.{Rules}
use Rattle.lens_engines.specs.declared.verdict.Verdict.{Verdict}
use Rattle.lens_engines.specs.declared.verdict.Verdict.TheVariants.{Unjudged}
use Rattle.lens_reports.specs.Bases.{AreBases, IsRefusedAt, path_at}
use Rattle.lens_reports.specs.Files.{lent}
use Rattle.lens_reports.specs.Job.{closing_line, unlooked_line}
use Rattle.lens_reports.specs.Run.{ToldTo, refusal_line}
use Rattle.lens_reports.specs.declared.bases.BaseFault.{BaseFault}
use Rattle.lens_reports.specs.declared.files.ReadFault.{ReadFault}
use Rattle.lens_reports.specs.declared.files.ReadFault.TheVariants.{Refused, Memory}
use Rattle.lens_reports.specs.declared.tell.ReportKind.{ReportKind}
use Rattle.lens_reports.specs.declared.tell.ReportSum.{ReportSum}
use Rattle.lens_reports.specs.declared.tell.Request.{Request}
use Rattle.wad_dir.specs.Wad.{Wad}

-- all files were reported on, and then which warnings weren't looked for
pub record TellsAll (asked : Request) (paths files : List (List ℕ)) (out out' errors errors' : SinkState) (verdict : Verdict) : Type 0 where
  pub between : SinkState
  pub tally : ReportSum
  pub between_errors : SinkState
  pub told : ToldTo (lent files) asked out errors paths between between_errors tally
  pub closed : Appends between.taken out'.taken (closing_line asked (length paths) tally.totals)
  pub noted : Appends between_errors.taken errors'.taken (unlooked_line tally.totals.unlisted)
  pub says : verdict ≡ tally.verdict

-- the files behind the base files were reported on, over the base files
pub record TellsOthers (word : ReportKind) (rules : Rules) (bases : ℕ) (paths files : List (List ℕ)) (out out' errors errors' : SinkState) (verdict : Verdict) : Type 0 where
  pub base : List Wad
  pub are_bases : AreBases (lent (take bases files)) (take bases paths) base
  pub judging : Judging
  pub over : IsOver rules base judging
  pub told : TellsAll (record { word = word; judging = judging }) (drop bases paths) (drop bases files) out out' errors errors' verdict

-- it was reported why a base file isn't taken
abbrev pub TellsRefused : List ℕ → ReadFault → SinkState → SinkState → Verdict → Type 0
TellsRefused path (Refused refusal) errors errors' verdict = Appends errors.taken errors'.taken (refusal_line path refusal) × (verdict ≡ Unjudged)
TellsRefused path Memory errors errors' verdict = ⊥

-- a base file isn't taken: this was reported, and nothing else was written
pub record RefusesBase (bases : ℕ) (paths files : List (List ℕ)) (out out' errors errors' : SinkState) (verdict : Verdict) : Type 0 where
  pub first : BaseFault
  pub refused : IsRefusedAt (lent (take bases files)) (take bases paths) first
  pub untouched : out' ≡ out
  pub told : TellsRefused (path_at (take bases paths) first.place) first.fault errors errors' verdict

-- the files behind the base files were reported on, or a base file is refused
abbrev pub TellsOver : ReportKind → Rules → ℕ → List (List ℕ) → List (List ℕ) → SinkState → SinkState → SinkState → SinkState → Verdict → Type 0
TellsOver word rules bases paths files out out' errors errors' verdict =
    RefusesBase bases paths files out out' errors errors' verdict ⊎ TellsOthers word rules bases paths files out out' errors errors' verdict
