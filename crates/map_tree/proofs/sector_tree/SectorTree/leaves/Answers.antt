use Rattle.std.proofs.Common.{◌≡◌, ℕ, Some, subst}
use Rattle.map_level.specs.Level.{Level}
use Rattle.map_level.specs.SectorOf.{sector_of}
use Rattle.map_geo.specs.Point.{Point}
use Rattle.map_tree.specs.Leaf.{Each, IsLeaf, LiesIn}
use Rattle.map_tree.specs.Sound.{IsSound}
use Rattle.map_tree.proofs.EachLemmas.{each_through, leaves_within}
use Rattle.map_tree.proofs.sector_tree.SectorTree.leaves.Goals as goal

pub with_sectors-requires : goal.with_sectors-requires
with_sectors-requires g c =
    let leaves = subst (λ (level : Level). Each (IsLeaf level) c.args.points c.leaves.result) c.self.view_is c.leaves.ensures in
    leaves_within _ _ _ (subst IsSound c.self.view_is c.self.invariant.0) leaves

lies_in : (level : Level) (point : Point) (t : ℕ) (found : ℕ × ℕ) → IsLeaf level point t
    → (found.0 ≡ t) × (sector_of level t ≡ Some found.1) → LiesIn level point found
lies_in level point t found leaf is = (rw is.0 leaf, rw is.0 is.1)

pub returns : goal.returns
returns g c =
    let leaves = subst (λ (level : Level). Each (IsLeaf level) c.args.points c.leaves.result) c.self.view_is c.leaves.ensures in
    each_through _ _ (LiesIn c.args.self.now) _ _ _ (lies_in c.args.self.now) leaves c.with_sectors.ensures
