use Rattle.lens_engines.proofs.SurveyLemmas.{file_surveyed, one_alone}
use Rattle.lens_engines.proofs.survey.survey_file.Goals as goal

pub survey_over-requires-clause-alone : goal.survey_over-requires-clause-alone
survey_over-requires-clause-alone g c = one_alone c.args.bytes.now c.in-Ok.set c.in-Ok.ensures.bytes

pub returns-in-Ok : goal.returns-in-Ok
returns-in-Ok g c =
    file_surveyed g.W.Sink.state c.args.path.now c.args.bytes.now c.in-Ok.set c.args.judging c.args.out.now c.survey_over.new.out c.survey_over.result
    c.in-Ok.ensures.bytes c.in-Ok.ensures.read c.survey_over.ensures
