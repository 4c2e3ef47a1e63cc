use Rattle.look_engines.proofs.engines.PointsLemmas.{leaf_is}
use Rattle.look_engines.proofs.engines.points.leaf_at.Goals as goal

pub returns : goal.returns
returns g c = λ leaf_of are_leaves.
    leaf_is c.args.tree.now leaf_of c.args.point c.leaf.result _ are_leaves (c.leaf.ensures.leaf, c.leaf.ensures.sector)
    c.leaf_from.ensures.ssector c.leaf_from.ensures.sector
