use Rattle.lens_engines.proofs.UnlookedLemmas.{any_of_empty}
use Rattle.lens_engines.proofs.unlooked.has_any.Goals as goal

pub returns : goal.returns
returns c = any_of_empty c.args.set.now c.is_empty.result c.is_empty.ensures
