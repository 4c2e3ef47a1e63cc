-- The laws of sound levels.
use Rattle.std.proofs.Common.{◌≡◌, ℕ, [], length, refl, ap, ◌∙◌, subst, inl, inr, Some, arith}
use Rattle.std.specs.Prelude.{◌↔◌}
use Rattle.map_level.specs.Level.{Level}
use Rattle.map_level.specs.Findings.{NoFaultHolds}
use Rattle.map_level.specs.LinkFaults.{LinkHolds}
use Rattle.map_tree.specs.TreeFaults.{TreeHolds}
use Rattle.map_tree.specs.Sound.{IsSound}
use Rattle.map_tree.specs.Paths.{ssector}
use Rattle.map_tree.specs.Leaf.{IsLeaf, CountsAncestors}
use Rattle.map_tree.proofs.ChainLemmas.{go_on}
use Rattle.map_tree.specs.Child.{node_count, child, root}
use Rattle.map_tree.specs.Laws.{OneLeaf, AncestorsByDepth, DepthAtMostNodes, SoundIsFaultless, OneWork, FewTests, FewPending, SectorsAreTold, CountsAddUp, OneCounting}
use Rattle.map_tree.proofs.Sizes.{size_of}
use Rattle.map_tree.proofs.WorkLemmas.{Work-once}
use Rattle.map_tree.proofs.FewLemmas.{area_from_rect, sized-from_sound, work_few_tests, work_few_pending}
use Rattle.map_tree.specs.PlainCount.{plain_count}
use Rattle.map_tree.proofs.CountedLemmas.{one_list_of_pairs, some_counts}
use Rattle.map_tree.proofs.TotalLemmas.{counts_total}
use Rattle.map_level.proofs.LinkedLemmas.{linked_sector}
use Rattle.map_level.specs.Reading.{ssector_under}
use Rattle.map_level.specs.SectorOf.{sector_of}
use Rattle.map_geo.specs.Point.{Point}
use Rattle.std.proofs.lemmas.List.{length-map}
use Rattle.map_tree.proofs.DescentLemmas.{leaf_within}
use Rattle.map_tree.proofs.TreeLemmas.{depth_short}
use Rattle.map_tree.proofs.SoundLemmas.{once_from_tree, tree_from_sound, linked_from_sound}
use Rattle.map_tree.proofs.FaultLemmas.{faultless_from_sound, sound_from_faultless}
use Rattle.map_tree.proofs.LeafLemmas.{one_leaf, some_leaf, chain_ancestors}

pub law_one_leaf : OneLeaf
law_one_leaf level point sound =
    let leaf = some_leaf level point sound in
    (leaf.0, leaf.1, (λ u other. one_leaf level point u leaf.0 other leaf.1))

pub law_depth : DepthAtMostNodes
law_depth level steps place sound leads =
    depth_short (child level) (node_count level) (root level) (once_from_tree level (tree_from_sound level sound)) steps place leads

pub law_ancestors : AncestorsByDepth
law_ancestors level steps t sound leads =
    let r = go_on (child level) steps (root level) (root level) (ssector t) [] refl leads in
    let long : length r.turns ≡ steps = omega (arith, r.long) in
    subst (λ count. CountsAncestors level t count) long (chain_ancestors level r.turns t (tree_from_sound level sound) r.is)

pub law_faultless : SoundIsFaultless
law_faultless level = (faultless_from_sound level, sound_from_faultless level)

pub law_one_work : OneWork
law_one_work level rect place w p v q valid one other = Work-once level rect place w p v q (area_from_rect rect valid) one other

pub law_few_tests : FewTests
law_few_tests level rect w p sound valid work = work_few_tests level (size_of level) rect (sized-from_sound level sound) valid w p work

pub law_few_pending : FewPending
law_few_pending level rect w p sound valid work = work_few_pending level (size_of level) rect (sized-from_sound level sound) valid w p work

-- the sector of the leaf that each point has
sector_told : (level : Level) (point : Point) → IsSound level → (s : ℕ) × ((t : ℕ) → IsLeaf level point t → sector_of level t ≡ Some s)
sector_told level point sound =
    let leaf = law_one_leaf level point sound in
    let told = linked_sector level (linked_from_sound level sound) leaf.0 (rw (length-map level.ssectors.records (ssector_under level.reading)) (leaf_within level point leaf.0 sound leaf.1)) in
    (told.0, (λ t other. ap (sector_of level) (leaf.2 t other) ∙ told.1))

pub law_sectors : SectorsAreTold
law_sectors level sound = ((λ point. (sector_told level point sound).0), (λ point. (sector_told level point sound).1))

pub law_one_counting : OneCounting
law_one_counting level sector rect sound tells =
    let found = some_counts level sector rect sound tells in
    (found.0, found.1, λ other are. one_list_of_pairs (λ s. plain_count sector s rect) other found.0 are found.1)

pub law_counts : CountsAddUp
law_counts sector rect pairs are = counts_total sector rect pairs are

-- a level is sound exactly where neither its links nor its nodes have a fault
pub sound_by_parts : (level : Level) → IsSound level ↔ (NoFaultHolds (LinkHolds level) × NoFaultHolds (TreeHolds level))
sound_by_parts level = (
  (λ sound.
      let none = faultless_from_sound level sound in
      ((λ code i fault h. none code i fault (inl h)), (λ code i fault h. none code i fault (inr h)))),
  (λ none. sound_from_faultless level (λ code i fault h. elim h [
    | inl link ↦ none.0 code i fault link
    | inr tree ↦ none.1 code i fault tree
  ])),
)
