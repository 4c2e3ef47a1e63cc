use Rattle.std.proofs.Common.{refl}
use Rattle.level_codes.specs.Explanations.{explanation_table}
use Rattle.level_codes.proofs.explanation.explanations.Goals as goal

pub returns : goal.returns
unfolding explanation_table
returns c = refl
