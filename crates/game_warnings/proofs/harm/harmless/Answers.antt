use Rattle.game_warnings.proofs.HarmLemmas.{no_harms}
use Rattle.game_warnings.proofs.harm.harmless.Goals as goal

pub loop-n-init : goal.loop-n-init
loop-n-init g c = rw c.in_ok-harms.ensures.items no_harms
