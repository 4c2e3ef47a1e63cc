use Rattle.demo_listings.proofs.LawLemmas.{differ_not_same}
use Rattle.demo_listings.proofs.laws.told_demos_differ.Goals as goal

pub returns : goal.returns
returns c = differ_not_same
