use Rattle.std.proofs.Common.{sym, ap, ◌∙◌}
use Rattle.level_codes.specs.Codes.{code_rank}
use Rattle.level_codes.proofs.CodeLemmas.{code_at-rank, code_rank-at, code_rank-below}
use Rattle.level_codes.proofs.laws.codes_stand_at_their_ranks.Goals as goal

pub returns : goal.returns
returns c = λ code. record {
  few = code_rank-below code;
  there = code_at-rank code;
  alone = λ k h is. sym (code_rank-at k h) ∙ ap code_rank is;
}
