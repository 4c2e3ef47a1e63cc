use Rattle.std.proofs.Common.{◌∙◌, ap, arith}
use Rattle.level_codes.proofs.CodeLemmas.{code_rank-at}
use Rattle.level_codes.specs.Codes.{code_rank}
use Rattle.wadlook_c.proofs.question.code_of.Goals as goal

pub returns-clause-some : goal.returns-clause-some
returns-clause-some c = ap code_rank c.at.ensures ∙ code_rank-at c.args.rank (omega (arith, c.if-rank.false))
