use Rattle.level_codes.proofs.ExplanationLemmas.{explanation_fits}
use Rattle.level_codes.proofs.laws.explanations_fit_screen.Goals as goal

pub returns : goal.returns
returns c = explanation_fits
