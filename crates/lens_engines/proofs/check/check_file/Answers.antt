use Rattle.lens_engines.specs.Check.{asked_of}
use Rattle.lens_engines.proofs.CheckLemmas.{file_checked}
use Rattle.lens_engines.proofs.SurveyLemmas.{one_alone}
use Rattle.lens_engines.proofs.check.check_file.Goals as goal

pub check_labelled-requires-clause-alone : goal.check_labelled-requires-clause-alone
check_labelled-requires-clause-alone g c = one_alone c.args.bytes.now c.in-Ok.set c.in-Ok.ensures.bytes

pub returns-in-Ok : goal.returns-in-Ok
returns-in-Ok g c =
    file_checked g.W.Sink.state (asked_of c.args.question.now) c.args.bytes.now c.in-Ok.set c.args.out.now c.check_labelled.new.out c.check_labelled.result
    c.in-Ok.ensures.bytes c.in-Ok.ensures.read c.check_labelled.ensures
