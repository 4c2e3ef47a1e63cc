use Rattle.std.proofs.Common.{◌≡◌, false}
use Rattle.wad_dir.specs.Entries.{names}
use Rattle.lens_engines.proofs.SurveyLemmas.{ToldSoFar}
use Rattle.lens_engines.proofs.survey.survey_set.Given as goal

abbrev pub invariant-levels : goal.invariant-levels
invariant-levels g l = record {
  sound : (g.W.Sink.state l.out).failed ≡ false;
  of_set : l.g-iterator.names ≡ names l.set;
  so_far : ToldSoFar l.path l.set l.judging (g.W.Sink.state l.fn.out) (g.W.Sink.state l.out) l.g-iterator.from l.worst;
}
