-- The loop of the descent, whose word names a place on the way of the point.
use Rattle.std.proofs.Common.{◌≡◌, ℕ, ◌+◌, ◌-◌, ◌<◌, ◌≤◌, refl, sym, ap, ◌∙◌, subst, Option, Some, None, inl, inr, arith}
use Rattle.std.specs.Prelude.{IsSomeAnd}
use Rattle.le_rec.specs.Table.{Rows}
use Rattle.std.specs.List.{slice_get}
use Rattle.std.proofs.lemmas.Bool.{cases_lt, lt-ltb, ltb-true, cond-true}
use Rattle.le_rec.specs.declared.records.Node.{Node}
use Rattle.map_geo.specs.declared.sides.Side.{Side}
use Rattle.map_geo.specs.Point.{Point, IsInRange}
use Rattle.map_geo.specs.Partition.{partition_of}
use Rattle.map_geo.specs.Side.{side_of}
use Rattle.map_level.specs.Level.{Level}
use Rattle.map_tree.specs.Paths.{node, ssector}
use Rattle.map_tree.specs.Child.{node_count, ssector_count, place_of, word_at, child, root_of, side_at}
use Rattle.map_tree.specs.Leaf.{IsLeaf, CountsAncestors}
use Rattle.map_tree.specs.Sound.{IsTree, IsSound}
use Rattle.map_tree.specs.Steps.{IsWord}
use Rattle.map_tree.proofs.SoundLemmas.{tree_from_sound, some_ssector, few_nodes}
use Rattle.map_tree.proofs.ReachLemmas.{reached_there}
use Rattle.map_tree.proofs.LeafLemmas.{OnWay, way_start, way_down, way_short, way_deep, way_leaf, way_tests, one_leaf, child_is}

-- the word names the place to which so many sides of the point lead
pub record IsAt (level : Level) (point : Point) (word tests : ℕ) : Type 0 where
  pub sound : IsSound level
  pub way : OnWay level point tests (place_of word)

pub place_below : (word : ℕ) → word < 32768 → place_of word ≡ node word
place_below word h = cond-true _ (node word) (ssector (word - 32768)) (lt-ltb word 32768 h)

pub at_start : (level : Level) (point : Point) (word : ℕ) → IsSound level → place_of word ≡ root_of (node_count level) → IsAt level point word 0
at_start level point word sound e = record { sound = sound; way = subst (λ p. OnWay level point 0 p) (sym e) (way_start level point (some_ssector level sound)) }

at_node : (level : Level) (point : Point) (word tests : ℕ) → word < 32768 → IsAt level point word tests → OnWay level point tests (node word)
at_node level point word tests below at = subst (λ p. OnWay level point tests p) (place_below word below) at.way

at_ssector : (level : Level) (point : Point) (word tests t : ℕ) → place_of word ≡ ssector t → IsAt level point word tests → OnWay level point tests (ssector t)
at_ssector level point word tests t e at = subst (λ p. OnWay level point tests p) e at.way

pub at_deep : (level : Level) (point : Point) (word tests : ℕ) → word < 32768 → IsAt level point word tests → tests < node_count level
at_deep level point word tests below at = way_deep level point tests word (tree_from_sound level at.sound) (at_node level point word tests below at)

pub at_short : (level : Level) (point : Point) (word tests : ℕ) → IsAt level point word tests → tests ≤ node_count level
at_short level point word tests at = way_short level point tests (place_of word) (tree_from_sound level at.sound) at.way

pub at_origin : (level : Level) (point : Point) (word tests : ℕ) → word < 32768 → IsAt level point word tests
    → IsSomeAnd (slice_get level.nodes.records word) (λ found. IsInRange found.x × IsInRange found.y)
at_origin level point word tests below at =
    (tree_from_sound level at.sound).origins word (ltb-true word (node_count level) (at_node level point word tests below at).there)

-- the next word is that of the child at the point's side
child_word : (level : Level) (point : Point) (n next : ℕ) (o : Option Node) → IsTree level → slice_get level.nodes.records n ≡ o
    → IsSomeAnd o (λ found. next ≡ word_at found (side_of (partition_of found) point))
    → (s : Side) × (side_at level n point ≡ Some s) × (child level n s ≡ Some (place_of next))
child_word level point n next None tree e h = elim h [ ]
child_word level point n next (Some found) tree e h =
    let s = side_of (partition_of found) point in
    (s, rw e refl, child_is level n found s tree e ∙ ap (λ word. Some (place_of word)) (sym h))

pub at_next : (level : Level) (point : Point) (word next tests : ℕ) (nodes : Rows Node) → word < 32768 → IsAt level point word tests → nodes ≡ level.nodes
    → IsSomeAnd (slice_get nodes.records word) (λ found. next ≡ word_at found (side_of (partition_of found) point)) → IsAt level point next (tests + 1)
at_next level point word next tests nodes below at e h =
    let way = at_node level point word tests below at in
    let here : IsSomeAnd (slice_get level.nodes.records word) (λ found. next ≡ word_at found (side_of (partition_of found) point)) =
    subst (λ (rows : Rows Node). IsSomeAnd (slice_get rows.records word) (λ found. next ≡ word_at found (side_of (partition_of found) point))) e h in
    let r = child_word level point word next (slice_get level.nodes.records word) (tree_from_sound level at.sound) refl here in
    record { sound = at.sound; way = way_down level point tests word r.0 (place_of next) way r.1 r.2 }

pub at_within : (level : Level) (point : Point) (word tests t : ℕ) → place_of word ≡ ssector t → IsAt level point word tests → t < ssector_count level
at_within level point word tests t e at = ltb-true t (ssector_count level) (at_ssector level point word tests t e at).there

pub at_leaf : (level : Level) (point : Point) (word tests t : ℕ) → place_of word ≡ ssector t → IsAt level point word tests → IsLeaf level point t
at_leaf level point word tests t e at = way_leaf level point tests t (tree_from_sound level at.sound) (at_ssector level point word tests t e at)

pub at_tests : (level : Level) (point : Point) (word tests t : ℕ) → place_of word ≡ ssector t → IsAt level point word tests → CountsAncestors level t tests
at_tests level point word tests t e at = way_tests level point tests t (tree_from_sound level at.sound) (at_ssector level point word tests t e at)

pub at_only : (level : Level) (point : Point) (word tests t : ℕ) → place_of word ≡ ssector t → IsAt level point word tests → (u : ℕ) → IsLeaf level point u → u ≡ t
at_only level point word tests t e at u leaf = one_leaf level point u t leaf (at_leaf level point word tests t e at)

pub at_fits : (level : Level) (point : Point) (word tests : ℕ) → word < 32768 → IsAt level point word tests → tests + 1 < 4294967296
at_fits level point word tests below at = omega (arith, at_deep level point word tests below at, few_nodes level at.sound)

pub at_smaller : (level : Level) (point : Point) (word tests : ℕ) → word < 32768 → IsAt level point word tests → node_count level - (tests + 1) < node_count level - tests
at_smaller level point word tests below at = omega (arith, at_deep level point word tests below at)

-- a leaf is an ssector that is there
pub leaf_within : (level : Level) (point : Point) (t : ℕ) → IsSound level → IsLeaf level point t → t < ssector_count level
leaf_within level point t sound leaf = ltb-true t (ssector_count level) (reached_there level (ssector t) (some_ssector level sound) leaf.reached)

-- the word names the place to which a point has come in so many turns, of which none is made behind an ssector
pub record GoesDown (level : Level) (point : Point) (word turns : ℕ) : Type 0 where
  pub tests : ℕ
  pub at : IsAt level point word tests
  pub each : word < 32768 → tests ≡ turns

pub down_start : (level : Level) (point : Point) (word : ℕ) → IsSound level → place_of word ≡ root_of (node_count level) → GoesDown level point word 0
down_start level point word sound e = record { tests = 0; at = at_start level point word sound e; each = λ below. refl }

pub down_word : (level : Level) (point : Point) (word turns : ℕ) → GoesDown level point word turns → IsWord level.nodes.records word
down_word level point word turns down = λ below. at_origin level point word down.tests below down.at

pub down_turn : (level : Level) (point : Point) (word next turns : ℕ) (nodes : Rows Node) → GoesDown level point word turns → nodes ≡ level.nodes
    → (word < 32768 → IsSomeAnd (slice_get nodes.records word) (λ found. next ≡ word_at found (side_of (partition_of found) point)))
    → (32768 ≤ word → next ≡ word) → GoesDown level point next (turns + 1)
down_turn level point word next turns nodes down e at_node stays =
    elim (cases_lt word 32768) [
      | inl below ↦ record {
        tests = down.tests + 1;
        at = at_next level point word next down.tests nodes below down.at e (at_node below);
        each = λ _. ap (λ n. n + 1) (down.each below);
      }
      | inr past ↦
          let same : next ≡ word = stays past in
          record {
            tests = down.tests;
            at = subst (λ w. IsAt level point w down.tests) (sym same) down.at;
            each = λ below. absurd (let h : next < 32768 = below in omega (arith, h, same, past));
          }
    ]

-- after as many turns as there are nodes each point is in an ssector
pub down_arrives : (level : Level) (point : Point) (word turns : ℕ) → node_count level ≤ turns → GoesDown level point word turns → 32768 ≤ word
down_arrives level point word turns enough down =
    elim (cases_lt word 32768) [
      | inl below ↦ absurd (let deep = at_deep level point word down.tests below down.at in let same = down.each below in omega (arith, deep, same, enough))
      | inr past ↦ past
    ]

pub down_leaf : (level : Level) (point : Point) (word turns t : ℕ) → place_of word ≡ ssector t → GoesDown level point word turns → IsLeaf level point t
down_leaf level point word turns t e down = at_leaf level point word down.tests t e down.at
