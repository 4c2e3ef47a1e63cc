use Rattle.map_geo.specs.declared.sides.Side.TheVariants.{Front, Back}
use Rattle.node_tree.proofs.SlotLemmas.{child_slot_in}
use Rattle.node_tree.proofs.places.Places.children.Goals as goal

pub returns-clause-front_in : goal.returns-clause-front_in
returns-clause-front_in g c =
    child_slot_in (g.T.Forked.shape c.args.self.now) c.args.place Front _ (rw c.self.view_is at c.children.ensures.front)

pub returns-clause-back_in : goal.returns-clause-back_in
returns-clause-back_in g c =
    child_slot_in (g.T.Forked.shape c.args.self.now) c.args.place Back _ (rw c.self.view_is at c.children.ensures.back)
