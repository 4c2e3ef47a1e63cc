use Rattle.demo_engines.proofs.LawLemmas.{one_listing}
use Rattle.demo_engines.proofs.laws.one_listing.Goals as goal

pub returns : goal.returns
returns c = one_listing
