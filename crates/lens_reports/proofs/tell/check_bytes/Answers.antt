use Rattle.std.proofs.Common.{refl}
use Rattle.lens_engines.specs.Check.{asked_of}
use Rattle.lens_reports.proofs.TellLemmas.{check_left, checked}
use Rattle.lens_reports.proofs.tell.check_bytes.Goals as goal

pub returns-in-Ok : goal.returns-in-Ok
returns-in-Ok g c =
    let told = checked g.W.Sink.state (asked_of c.args.question.now) c.args.bytes.now c.args.out.now c.check_file.new.out c.in-Ok.totals _ refl c.verdict.ensures c.in-Ok.ensures in
    record { told = told.0; sound = told.1; left = tt }

pub returns-in-Err : goal.returns-in-Err
returns-in-Err g c = record {
  told = tt;
  sound = tt;
  left = rw c.from_engine.ensures (check_left g.W.Sink.state (asked_of c.args.question.now) c.args.bytes.now c.args.out.now c.check_file.new.out c.in-Err.fault c.in-Err.ensures);
}
