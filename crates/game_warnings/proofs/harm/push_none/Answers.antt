use Rattle.game_warnings.proofs.HarmLemmas.{plain_more}
use Rattle.game_warnings.proofs.harm.push_none.Goals as goal

pub returns : goal.returns
returns g c = rw c.in_ok-push.ensures.items (plain_more c.args.n c.args.harms.now.items c.requires)
