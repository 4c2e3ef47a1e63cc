use Rattle.std.proofs.Common.{◌≡◌, ◌≤◌, ℕ, ap, subst, ◌∙◌, length, arith, rules}
use Rattle.le_rec.specs.declared.records.Node.{Node}
use Rattle.le_rec.specs.Table.{Rows}
use Rattle.map_level.specs.Level.{Level}
use Rattle.map_tree.specs.Child.{node_count}
use Rattle.map_tree.specs.Leaf.{IsLeaf}
use Rattle.map_tree.specs.Sound.{IsSound}
use Rattle.map_tree.proofs.EachLemmas.{all_of_four, each_of_four, each_through}
use Rattle.map_tree.proofs.SoundLemmas.{few_nodes}
use Rattle.map_tree.proofs.DescentLemmas.{GoesDown, down_start, down_word, down_turn, down_arrives, down_leaf}
use Rattle.map_tree.proofs.tree.Tree.leaves.Goals.{else-turns-test, then-turns-test+then-min-ge-NF_SUBSECTOR}
use Rattle.map_tree.proofs.tree.Tree.leaves.Goals as goal

pub root_word-root-requires : goal.root_word-root-requires
root_word-root-requires c =
    rw (
      c.len.ensures,
      c.nodes-nodes.ensures.is,
    ) (few_nodes c.self.inside.level.now c.self.invariant)

pub turns-init : goal.turns-init
turns-init c =
    let sound = subst IsSound c.self.view_is c.self.invariant in
    let nodes = c.nodes-nodes.ensures.is ∙ ap (λ (level : Level). level.nodes) c.self.view_is in
    let root = rw (c.len.ensures, nodes) at c.root_word-root.ensures in
    (down_start _ _ _ sound root, down_start _ _ _ sound root, down_start _ _ _ sound root, down_start _ _ _ sound root)

pub word_below-a-requires : goal.word_below-a-requires
word_below-a-requires c = rw (c.nodes-nodes.ensures.is ∙ ap (λ (level : Level). level.nodes) c.self.view_is) (down_word _ _ _ _ c.turns.invariant.0)

pub word_below-b-requires : goal.word_below-b-requires
word_below-b-requires c = rw (c.nodes-nodes.ensures.is ∙ ap (λ (level : Level). level.nodes) c.self.view_is) (down_word _ _ _ _ c.turns.invariant.1)

pub word_below-c-requires : goal.word_below-c-requires
word_below-c-requires c = rw (c.nodes-nodes.ensures.is ∙ ap (λ (level : Level). level.nodes) c.self.view_is) (down_word _ _ _ _ c.turns.invariant.2)

pub word_below-d-requires : goal.word_below-d-requires
word_below-d-requires c = rw (c.nodes-nodes.ensures.is ∙ ap (λ (level : Level). level.nodes) c.self.view_is) (down_word _ _ _ _ c.turns.invariant.3)

pub turns-preserved : goal.turns-preserved
turns-preserved c =
    let nodes = c.nodes-nodes.ensures.is ∙ ap (λ (level : Level). level.nodes) c.self.view_is in (
      down_turn _ _ _ _ _ _ c.turns.invariant.0 nodes c.word_below-a.ensures.node c.word_below-a.ensures.ssector,
      down_turn _ _ _ _ _ _ c.turns.invariant.1 nodes c.word_below-b.ensures.node c.word_below-b.ensures.ssector,
      down_turn _ _ _ _ _ _ c.turns.invariant.2 nodes c.word_below-c.ensures.node c.word_below-c.ensures.ssector,
      down_turn _ _ _ _ _ _ c.turns.invariant.3 nodes c.word_below-d.ensures.node c.word_below-d.ensures.ssector,
    )

abbrev IsPast : ℕ → Type 0
IsPast word = 32768 ≤ word

-- each word names an ssector where one ends the turns, and where there is none left
pub ssectors_of-requires : goal.ssectors_of-requires
ssectors_of-requires c =
    let nodes = c.nodes-nodes.ensures.is ∙ ap (λ (level : Level). level.nodes) c.self.view_is in
    let count : c.len-turn-end.result ≡ node_count c.args.self.now = c.len-turn-end.ensures ∙ ap (λ (rows : Rows Node). length rows.records) nodes in
    elim c.turns-test.branch [
      | else-turns-test w ↦
          let enough : node_count c.args.self.now ≤ c.turns._turn = omega (arith, w.turns-test.false, count) in
          all_of_four IsPast _ _ _ _
          (down_arrives _ _ _ _ enough c.turns.invariant.0)
          (down_arrives _ _ _ _ enough c.turns.invariant.1)
          (down_arrives _ _ _ _ enough c.turns.invariant.2)
          (down_arrives _ _ _ _ enough c.turns.invariant.3)
      | then-turns-test+then-min-ge-NF_SUBSECTOR w ↦
          let least = w.if-min-ge-NF_SUBSECTOR.true in
          all_of_four IsPast _ _ _ _
          (omega (arith, least, w.min.ensures, w.min-in-turns.ensures))
          (omega (arith, least, w.min.ensures, w.min-in-turns.ensures))
          (omega (arith, least, w.min.ensures, w.min-in-turns-2.ensures))
          (omega (arith, least, w.min.ensures, w.min-in-turns-2.ensures))
    ]

pub returns : goal.returns
returns c =
    let level = c.args.self.now in
    let four : length c.args.points ≡ 4 = search rules in
    let down = each_of_four (λ point word. GoesDown level point word c.turns._turn) _ _ _ _ _ _ _ _ _ four
    c.turns.invariant.0 c.turns.invariant.1 c.turns.invariant.2 c.turns.invariant.3 in
    each_through _ _ (IsLeaf level) _ _ _ (λ point word t at e. down_leaf level point word c.turns._turn t e at) down c.ssectors_of.ensures
