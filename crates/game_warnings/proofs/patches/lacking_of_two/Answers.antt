use Rattle.game_warnings.proofs.PatchLemmas.{lacks_of_two}
use Rattle.game_warnings.proofs.patches.lacking_of_two.Goals as goal

pub returns : goal.returns
returns g c =
    lacks_of_two c.args.set.now c.args.first.now c.args.second.now c.args.pnames.now c.requires.lumps c.lacking_in-2.result c.in_default.ensures c.lacking_in-2.ensures
