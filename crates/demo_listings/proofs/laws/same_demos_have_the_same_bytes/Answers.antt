use Rattle.demo_listings.proofs.SameLemmas.{same_bytes}
use Rattle.demo_listings.proofs.laws.same_demos_have_the_same_bytes.Goals as goal

pub returns : goal.returns
returns c = same_bytes c.one_reading.ensures
