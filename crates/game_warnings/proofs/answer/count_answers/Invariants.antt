use Rattle.std.proofs.Common.{ℕ, ◌≤◌, get_or}
use Rattle.game_warnings.proofs.AnswerLemmas.{AreAnswersBelow}
use Rattle.game_warnings.proofs.answer.count_answers.Given as goal

abbrev pub invariant-loop-s : goal.invariant-loop-s
invariant-loop-s l = record {
  are : AreAnswersBelow l.level l.s l.counts;
  few : (n : ℕ) → get_or l.counts n 0 ≤ l.s;
}
