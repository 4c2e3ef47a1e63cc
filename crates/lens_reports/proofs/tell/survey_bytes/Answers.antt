use Rattle.std.proofs.Common.{ap, refl}
use Rattle.lens_reports.specs.declared.tell.ReportSum.{ReportSum}
use Rattle.lens_reports.proofs.TellLemmas.{survey_left, surveyed}
use Rattle.lens_reports.proofs.tell.survey_bytes.Goals as goal

pub returns-in-Ok : goal.returns-in-Ok
returns-in-Ok g c =
    let told = surveyed g.W.Sink.state c.args.path.now c.args.bytes.now c.args.judging c.args.out.now c.survey_file.new.out c.in-Ok.verdict (record { verdict = c.in-Ok.verdict; totals = c.no_tally.result.totals }) refl
    (ap (λ (t : ReportSum). t.totals) c.no_tally.ensures) c.in-Ok.ensures in
    record { told = told.0; sound = told.1; left = tt }

pub returns-in-Err : goal.returns-in-Err
returns-in-Err g c = record {
  told = tt;
  sound = tt;
  left = rw c.from_engine.ensures (survey_left g.W.Sink.state c.args.path.now c.args.bytes.now c.args.judging c.args.out.now c.survey_file.new.out c.in-Err.fault c.in-Err.ensures);
}
