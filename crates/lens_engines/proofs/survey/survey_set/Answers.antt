use Rattle.std.proofs.Common.{refl, ◌∙◌}
use Rattle.lens_engines.proofs.SurveyLemmas.{ToldSoFar-more, ToldSoFar-none, level_stopped, level_told, told_all}
use Rattle.lens_engines.proofs.survey.survey_set.Goals as goal

pub levels-init : goal.levels-init
levels-init g c =
    rw (c.into_iter-g-iterator.ensures.into_iter_gives ∙ c.of-g-items.ensures)
    (record { sound = c.requires.sound; of_set = refl; so_far = ToldSoFar-none _ _ _ _ })

pub returns-in-Err : goal.returns-in-Err
returns-in-Err g c =
    let next = rw c.levels.invariant.of_set at c.in-Some.ensures.steps.0 in
    let some = level_stopped g.W.Sink.state c.args.path.now c.args.set.now c.args.judging (g.W.Sink.state c.args.out.now) c.levels.g-iterator.from c.in-Some.g c.levels.worst
    c.levels.out c.survey_level.new.out c.in-Err.fault c.levels.invariant.so_far c.levels.invariant.sound next c.in-Err.ensures in
    rw c.after.ensures (record { all = tt; some = some })

pub levels-preserved : goal.levels-preserved
levels-preserved g c =
    let next = rw c.levels.invariant.of_set at c.in-Some.ensures.steps.0 in
    let wrote = level_told g.W.Sink.state c.args.path.now c.args.set.now c.args.judging c.in-Some.g c.levels.out c.survey_level.new.out c.in-Ok.verdict c.in-Ok.ensures in
    let more = ToldSoFar-more c.args.path.now c.args.set.now c.args.judging (g.W.Sink.state c.args.out.now) (g.W.Sink.state c.levels.out) (g.W.Sink.state c.survey_level.new.out)
    c.levels.g-iterator.from c.in-Some.g c.levels.worst c.in-Ok.verdict c.levels.invariant.so_far next wrote in
    rw c.in-Some.ensures.steps.1 (record { sound = more.1; of_set = c.levels.invariant.of_set; so_far = rw c.graver-worst.ensures more.0 })

pub returns : goal.returns
returns g c =
    let none = rw c.levels.invariant.of_set at c.in-None.ensures.steps.0 in record {
      all = told_all c.args.path.now c.args.set.now c.args.judging (g.W.Sink.state c.args.out.now) (g.W.Sink.state c.levels.out) c.levels.g-iterator.from c.levels.worst
          c.levels.invariant.so_far none c.levels.invariant.sound;
      some = tt;
    }
