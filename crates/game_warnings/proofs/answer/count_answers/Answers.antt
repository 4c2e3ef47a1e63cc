use Rattle.std.proofs.Common.{◌≡◌, ◌≤◌, Some, length, arith}
use Rattle.std.specs.List.{slice_get}
use Rattle.map_level.specs.Links.{sectors_of}
use Rattle.game_warnings.proofs.AnswerLemmas.{answers_all, answers_more, no_answers}
use Rattle.game_warnings.proofs.answer.count_answers.Goals as goal

pub loop-s-init : goal.loop-s-init
loop-s-init c = record {
  are = no_answers c.args.level.now c.args.counts.now c.requires.long c.requires.none;
  few = λ n. let none = c.requires.none n in omega (arith, none);
}

pub loop-s-preserved : goal.loop-s-preserved
loop-s-preserved c =
    let level = c.args.level.now in
    let here : slice_get (sectors_of level) c.loop-s.s ≡ Some c.at.result = rw (← c.sectors-sectors.ensures.is) c.at.ensures in
    record {
      are =
          answers_more level c.loop-s.s c.at.result c.loop-s.counts c.count_answer.new.counts here c.count_answer.auto.counts c.count_answer.ensures.adds
          c.loop-s.invariant.are;
      few = c.count_answer.ensures.few;
    }

pub returns : goal.returns
returns c =
    let past : length (sectors_of c.args.level.now) ≤ c.loop-s.s = rw (← c.sectors-sectors.ensures.is, ← c.len-s-end.ensures) c.loop-s-test.false in
    answers_all c.args.level.now c.loop-s.s c.loop-s.counts past c.loop-s.invariant.are
