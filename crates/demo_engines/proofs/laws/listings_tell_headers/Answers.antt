use Rattle.demo_engines.proofs.ListedHeaderLemmas.{front_tells}
use Rattle.demo_engines.proofs.laws.listings_tell_headers.Goals as goal

pub returns : goal.returns
returns c = front_tells c.headers_have_players.ensures
