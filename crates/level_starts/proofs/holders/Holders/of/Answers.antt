use Rattle.level_starts.proofs.HolderLemmas.{labels_moved}
use Rattle.level_starts.proofs.holders.Holders.of.Goals as goal

pub returns : goal.returns
returns g c = labels_moved c.args.set.now c.in_ok-holders.holders _ c.in_ok-holders.ensures.labels c.move_to_last.ensures.last c.move_to_last.ensures.kept
