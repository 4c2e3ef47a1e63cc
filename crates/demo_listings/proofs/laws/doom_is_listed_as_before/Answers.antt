use Rattle.demo_listings.proofs.LawLemmas.{doom_is_listed}
use Rattle.demo_listings.proofs.laws.doom_is_listed_as_before.Goals as goal

pub returns : goal.returns
returns c = doom_is_listed
