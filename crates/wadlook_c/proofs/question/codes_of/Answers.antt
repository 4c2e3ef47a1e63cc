use Rattle.std.proofs.Common.{ap, ◌∙◌, arith}
use Rattle.std.specs.Prelude.{nat_lt}
use Rattle.std.proofs.lemmas.List.{length-set}
use Rattle.level_codes.proofs.CodeLemmas.{code_rank-below}
use Rattle.level_codes.proofs.SetLemmas.{has-set_of}
use Rattle.level_codes.specs.Codes.{code_rank}
use Rattle.level_codes.specs.Sets.{is_counted}
use Rattle.wadlook_c.proofs.QuestionLemmas.{bits_more, counted_bit}
use Rattle.wadlook_c.proofs.question.codes_of.Goals as goal

pub loop-rank-preserved : goal.loop-rank-preserved
loop-rank-preserved c = record {
  long = length-set c.loop-rank.counts c.loop-rank.rank c.bit_at.result ∙ c.loop-rank.invariant.long;
  each = bits_more c.loop-rank.counts c.loop-rank.rank c.bit_at.result c.args.bits (omega (arith, c.loop-rank.invariant.long)) c.loop-rank.invariant.each c.bit_at.ensures;
}

pub returns : goal.returns
returns c = λ code.
    let below = code_rank-below code in
    rw c.counted.ensures
    (has-set_of (is_counted c.loop-rank.counts) code ∙ ap (nat_lt 0) (c.loop-rank.invariant.each (code_rank code) (omega (arith, below))) ∙ counted_bit c.args.bits (code_rank code))
