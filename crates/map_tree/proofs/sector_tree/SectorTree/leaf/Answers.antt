use Rattle.std.proofs.Common.{sym, subst}
use Rattle.map_level.specs.Level.{Level}
use Rattle.map_tree.specs.Leaf.{IsLeaf}
use Rattle.map_tree.proofs.sector_tree.SectorTree.leaf.Goals as goal

pub returns-clause-only : goal.returns-clause-only
returns-clause-only g c = λ t leaf.
    rw c.with_sector.ensures.ssector (c.leaf-t.ensures.only t (subst (λ (seen : Level). IsLeaf seen c.args.point t) (sym c.self.view_is) leaf))
