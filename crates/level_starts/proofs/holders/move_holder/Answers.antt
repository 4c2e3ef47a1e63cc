use Rattle.level_starts.proofs.HolderLemmas.{puts_from_updates}
use Rattle.level_starts.proofs.holders.move_holder.Goals as goal

pub returns-in-Some-clause-moved : goal.returns-in-Some-clause-moved
returns-in-Some-clause-moved g c = λ some. puts_from_updates ((c.get_mut.follows.holds c.args.g).3 some)
