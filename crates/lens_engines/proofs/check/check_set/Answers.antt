use Rattle.std.proofs.Common.{refl, ◌∙◌}
use Rattle.lens_engines.specs.Check.{asked_of}
use Rattle.lens_engines.proofs.CheckLemmas.{SoFar-level, SoFar-start, level_stopped, level_told, told_all}
use Rattle.lens_engines.proofs.check.check_set.Goals as goal

pub levels-init : goal.levels-init
levels-init g c =
    rw (c.into_iter-g-iterator.ensures.into_iter_gives ∙ c.of-g-items.ensures)
    (record { sound = c.requires.sound; of_set = refl; so_far = rw c.none-sum.ensures (SoFar-start _ _ _) })

pub returns-in-Err : goal.returns-in-Err
returns-in-Err g c =
    let next = rw c.levels.invariant.of_set at c.in-Some.ensures.steps.0 in
    let some = level_stopped g.W.Sink.state (asked_of c.args.question.now) c.args.set.now (g.W.Sink.state c.args.out.now) c.levels.g-iterator.from c.in-Some.g c.levels.sum
    c.levels.out c.check_level.new.out c.in-Err.fault c.levels.invariant.so_far c.levels.invariant.sound next c.in-Err.ensures in
    rw (c.after.ensures, c.verdict.ensures) (record { all = tt; some = some })

pub levels-preserved : goal.levels-preserved
levels-preserved g c =
    let next = rw c.levels.invariant.of_set at c.in-Some.ensures.steps.0 in
    let level = level_told g.W.Sink.state (asked_of c.args.question.now) c.args.set.now c.in-Some.g c.levels.out c.check_level.new.out c.in-Ok.totals c.in-Ok.ensures in
    let more = SoFar-level (asked_of c.args.question.now) c.args.set.now (g.W.Sink.state c.args.out.now) (g.W.Sink.state c.levels.out) (g.W.Sink.state c.check_level.new.out)
    c.levels.g-iterator.from c.in-Some.g c.levels.sum c.in-Ok.totals c.levels.invariant.so_far next level in
    rw c.in-Some.ensures.steps.1 (record { sound = level.sound; of_set = c.levels.invariant.of_set; so_far = rw c.with-sum.ensures more })

pub returns : goal.returns
returns g c =
    let none = rw c.levels.invariant.of_set at c.in-None.ensures.steps.0 in record {
      all = told_all (asked_of c.args.question.now) c.args.set.now (g.W.Sink.state c.args.out.now) (g.W.Sink.state c.levels.out) c.levels.g-iterator.from c.levels.sum
          c.levels.invariant.so_far none c.levels.invariant.sound;
      some = tt;
    }
