use Rattle.later_demos.proofs.FooterLemmas.{IsFooter-one}
use Rattle.later_demos.proofs.laws.one_footer.Goals as goal

pub returns : goal.returns
returns c = IsFooter-one
