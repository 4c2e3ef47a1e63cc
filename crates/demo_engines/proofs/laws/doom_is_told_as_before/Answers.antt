use Rattle.demo_engines.proofs.DoomLineLemmas.{doom_is_told}
use Rattle.demo_engines.proofs.laws.doom_is_told_as_before.Goals as goal

pub returns : goal.returns
returns c = doom_is_told
