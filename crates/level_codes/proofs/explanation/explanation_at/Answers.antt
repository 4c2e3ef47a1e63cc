use Rattle.std.proofs.Common.{arith}
use Rattle.level_codes.proofs.ExplanationLemmas.{explained_at, explained_length}
use Rattle.level_codes.proofs.explanation.explanation_at.Goals as goal

pub bounds-explanations-rank : goal.bounds-explanations-rank
bounds-explanations-rank c = omega (arith, explained_length c.explanations-explanations.result.now c.explanations-explanations.ensures)

pub returns : goal.returns
returns c = explained_at c.explanations-explanations.result.now c.args.rank _ c.explanations-explanations.ensures c.requires
