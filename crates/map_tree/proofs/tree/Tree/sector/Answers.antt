use Rattle.map_tree.proofs.tree.Tree.sector.Goals as goal

pub returns : goal.returns
returns c = λ t leaf. let same = c.leaf-t.ensures.only t leaf in cc
