-- The laws of sound trees.
use Rattle.std.proofs.Common.{◌≡◌, refl, subst, [], length, arith}
use Rattle.map_tree.specs.Paths.{ssector}
use Rattle.map_tree.proofs.ChainLemmas.{go_on}
use Rattle.map_tree.proofs.TreeLemmas.{depth_short}
use Rattle.node_tree.specs.Laws.{AncestorsByDepth, DepthAtMostNodes, OneLeaf, SoundIsFaultless}
use Rattle.node_tree.specs.Leaf.{CountsAncestors}
use Rattle.node_tree.specs.Shape.{node_count, child, root}
use Rattle.node_tree.proofs.FaultLemmas.{faultless_from_sound, sound_from_faultless}
use Rattle.node_tree.proofs.LeafLemmas.{chain_ancestors, one_leaf, some_leaf}
use Rattle.node_tree.proofs.SoundLemmas.{once_from_tree, tree_from_sound}

pub law_one_leaf : OneLeaf
law_one_leaf shape point sound =
    let leaf = some_leaf shape point sound in
    (leaf.0, leaf.1, (λ u other. one_leaf shape point u leaf.0 other leaf.1))

pub law_depth : DepthAtMostNodes
law_depth shape steps place sound leads =
    depth_short (child shape) (node_count shape) (root shape) (once_from_tree shape (tree_from_sound shape sound)) steps place leads

pub law_ancestors : AncestorsByDepth
law_ancestors shape steps t sound leads =
    let r = go_on (child shape) steps (root shape) (root shape) (ssector t) [] refl leads in
    let long : length r.turns ≡ steps = omega (arith, r.long) in
    subst (λ count. CountsAncestors shape t count) long (chain_ancestors shape r.turns t (tree_from_sound shape sound) r.is)

pub law_faultless : SoundIsFaultless
law_faultless shape = (faultless_from_sound shape, sound_from_faultless shape)
