use Rattle.map_tree.proofs.SoundLemmas.{few_nodes}
use Rattle.map_cells.proofs.way.start.Goals as goal

pub root_word-requires : goal.root_word-requires
root_word-requires c = rw (c.len.ensures, c.nodes.ensures.is) (few_nodes c.args.level.now c.requires)
