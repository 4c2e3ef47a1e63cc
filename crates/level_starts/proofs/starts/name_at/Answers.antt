use Rattle.level_starts.proofs.StartLemmas.{named_by}
use Rattle.level_starts.proofs.starts.name_at.Goals as goal

pub returns : goal.returns
returns g c = named_by c.args.set.now c.args.g c.name.result c.name.ensures
