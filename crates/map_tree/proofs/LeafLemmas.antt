-- The way of a point down from the root, and its end.
use Rattle.std.proofs.Common.{◌≡◌, ℕ, zero, suc, ◌+◌, ◌<◌, ◌≤◌, inl, inr, refl, sym, ap, ◌∙◌, subst, List, [], ◌∷◌, length, Option, Some, None, IsTrue, arith}
use Rattle.std.specs.Prelude.{IsSome}
use Rattle.std.specs.List.{slice_get}
use Rattle.std.specs.Option.{option_map, option_and_then}
use Rattle.map_geo.specs.Partition.{partition_of}
use Rattle.map_geo.specs.Side.{side_of}
use Rattle.std.proofs.lemmas.Bool.{lt-ltb, ltb-true}
use Rattle.std.proofs.lemmas.Option.{cond_some, slice_get_cases, slice_get_within}
use Rattle.le_rec.specs.declared.records.Node.{Node}
use Rattle.map_geo.specs.declared.sides.Side.{Side}
use Rattle.map_geo.specs.Point.{Point}
use Rattle.map_level.specs.Level.{Level}
use Rattle.map_tree.specs.Paths.{Place, node, ssector, LeadsIn}
use Rattle.map_tree.specs.Child.{node_count, ssector_count, place_of, word_at, has, where_there, child, root, side_at}
use Rattle.map_tree.specs.Leaf.{ChildLeads, IsLeaf, CountsAncestors}
use Rattle.map_tree.specs.Sound.{IsTree, IsSound}
use Rattle.map_tree.proofs.ChainLemmas.{Turn, go, Mem, nodes_of, length_nodes_of, Chain, leads_from_chain, go_on, turn_leads, Contains-from_mem, mem_from_Contains, all_pairs_apart}
use Rattle.map_tree.proofs.TreeLemmas.{chain_apart, chain_short, node_deep, turn_in}
use Rattle.map_tree.proofs.SoundLemmas.{parent_in, child_there, once_from_tree, tree_from_sound, some_ssector, root_there}

-- each turn is to the side on which the point lies
abbrev pub Agree : Level → Point → List Turn → Type 0
Agree level point [] = Unit {0}
Agree level point (go n s ∷ ts) = (side_at level n point ≡ Some s) × Agree level point ts

Agree-at : (level : Level) (point : Point) (ts : List Turn) (n : ℕ) (s : Side)
    → Agree level point ts → Mem (go n s) ts → side_at level n point ≡ Some s
Agree-at level point [] n s a h = elim h [ ]
Agree-at level point (go m u ∷ ts) n s a (inl e) =
    let same_node : n ≡ m = cc in
    let same_side : s ≡ u = cc in
    rw (same_node, same_side) a.0
Agree-at level point (go m u ∷ ts) n s a (inr h) = Agree-at level point ts n s a.1 h

-- a place, so many turns below the root, to which the sides of the point lead
pub record OnWay (level : Level) (point : Point) (tests : ℕ) (p : Place) : Type 0 where
  pub turns : List Turn
  pub is : Chain (child level) (root level) turns p
  pub agree : Agree level point turns
  pub long : length turns ≡ tests
  pub there : IsTrue (has level p)

pub way_start : (level : Level) (point : Point) → 0 < ssector_count level
    → OnWay level point 0 (root level)
way_start level point some =
    record { turns = []; is = refl; agree = tt; long = refl; there = root_there level some }

pub way_down : (level : Level) (point : Point) (tests n : ℕ) (s : Side) (p : Place)
    → OnWay level point tests (node n) → side_at level n point ≡ Some s → child level n s ≡ Some p
    → OnWay level point (tests + 1) p
way_down level point tests n s p way on e = record {
  turns = go n s ∷ way.turns;
  is = (e, way.is);
  agree = (on, way.agree);
  long = omega (arith, way.long);
  there = child_there level n s p e;
}

pub way_short : (level : Level) (point : Point) (tests : ℕ) (p : Place) → IsTree level
    → OnWay level point tests p → tests ≤ node_count level
way_short level point tests p tree way =
    omega (
      arith,
      way.long,
      chain_short (child level) (node_count level) (root level)
          (once_from_tree level tree) way.turns p way.is,
    )

pub way_deep : (level : Level) (point : Point) (tests n : ℕ) → IsTree level
    → OnWay level point tests (node n) → tests < node_count level
way_deep level point tests n tree way =
    omega (
      arith,
      way.long,
      node_deep (child level) (node_count level) (root level)
          (once_from_tree level tree) way.turns n (ltb-true n (node_count level) way.there) way.is,
    )

-- a turn of a chain is each node and side whose child leads to its end
turn_above : (level : Level) (ts : List Turn) (p : Place) (n : ℕ) (s : Side) → IsTree level
    → Chain (child level) (root level) ts p → ChildLeads level n s p → Mem (go n s) ts
turn_above level ts p n s tree chain leads =
    let up =
    tree.reached (node n) (lt-ltb n (node_count level) (parent_in level n s leads.0 leads.1)) in
    let above = go_on (child level) up.0 (root level) (root level) (node n) [] refl up.1 in
    turn_in (child level) (node_count level) (root level)
    (once_from_tree level tree) ts above.turns p leads.0 n s chain above.is leads.1 leads.2

pub way_leaf : (level : Level) (point : Point) (tests t : ℕ) → IsTree level
    → OnWay level point tests (ssector t) → IsLeaf level point t
way_leaf level point tests t tree way = record {
  reached =
      (length way.turns, leads_from_chain (child level) way.turns (root level) (ssector t) way.is);
  agrees =
      λ n s leads.
      Agree-at level point way.turns n s way.agree
      (turn_above level way.turns (ssector t) n s tree way.is leads);
}

pub mem_nodes : (ts : List Turn) (n : ℕ) (s : Side) → Mem (go n s) ts → Mem n (nodes_of ts)
mem_nodes [] n s h = elim h [ ]
mem_nodes (go m u ∷ ts) n s (inl e) = let same : n ≡ m = cc in inl same
mem_nodes (go m u ∷ ts) n s (inr h) = inr (mem_nodes ts n s h)

mem_turn : (ts : List Turn) (n : ℕ) → Mem n (nodes_of ts) → (s : Side) × Mem (go n s) ts
mem_turn [] n h = elim h [ ]
mem_turn (go m u ∷ ts) n (inl e) = (u, inl (ap (λ x. go x u) e))
mem_turn (go m u ∷ ts) n (inr h) = let r = mem_turn ts n h in (r.0, inr r.1)

-- a place's ancestors are the nodes of its chain
pub chain_ancestors : (level : Level) (turns : List Turn) (t : ℕ) → IsTree level
    → Chain (child level) (root level) turns (ssector t) → CountsAncestors level t (length turns)
chain_ancestors level turns t tree is = record {
  ancestors = nodes_of turns;
  distinct =
      all_pairs_apart (nodes_of turns)
      (chain_apart (child level) (node_count level) (root level) (once_from_tree level tree) turns
      (ssector t) is);
  exact = λ n. (
    (λ h.
        let r = mem_turn turns n (mem_from_Contains (nodes_of turns) n h) in
        (r.0, turn_leads (child level) turns (root level) (ssector t) n r.0 is r.1)),
    (λ h. Contains-from_mem (nodes_of turns) n (mem_nodes turns n h.0
        (turn_above level turns (ssector t) n h.0 tree is h.1))),
  );
  many = length_nodes_of turns;
}

pub way_tests : (level : Level) (point : Point) (tests t : ℕ) → IsTree level
    → OnWay level point tests (ssector t) → CountsAncestors level t tests
way_tests level point tests t tree way =
    subst (λ count. CountsAncestors level t count) way.long
    (chain_ancestors level way.turns t tree way.is)

-- at most one ssector is a leaf below a place: the sides at each node are the point's
same_ways : (level : Level) (point : Point) (t u k j : ℕ) (p : Place)
    → ((n : ℕ) (s : Side) → ChildLeads level n s (ssector t) → side_at level n point ≡ Some s)
    → ((n : ℕ) (s : Side) → ChildLeads level n s (ssector u) → side_at level n point ≡ Some s)
    → LeadsIn (child level) k p (ssector t) → LeadsIn (child level) j p (ssector u) → t ≡ u
same_ways level point t u zero zero p a b h k = let e : ssector t ≡ ssector u = sym h ∙ k in cc
same_ways level point t u zero (suc j) (node n) a b h k = cc
same_ways level point t u zero (suc j) (ssector v) a b h k = elim k [ ]
same_ways level point t u (suc k) j (ssector v) a b h l = elim h [ ]
same_ways level point t u (suc k) zero (node n) a b h l = cc
same_ways level point t u (suc k) (suc j) (node n) a b h l =
    let one = a n h.0 (h.1, h.2, (k, h.3)) in
    let other = b n l.0 (l.1, l.2, (j, l.3)) in
    let some : Some h.0 ≡ Some l.0 = sym one ∙ other in
    let sides : h.0 ≡ l.0 = cc in
    let same : Some h.1 ≡ Some l.1 = sym h.2 ∙ (ap (child level n) sides ∙ l.2) in
    let next : h.1 ≡ l.1 = cc in
    same_ways level point t u k j h.1 a b h.3
    (subst (λ x. LeadsIn (child level) j x (ssector u)) (sym next) l.3)

pub one_leaf : (level : Level) (point : Point) (t u : ℕ) → IsLeaf level point t
    → IsLeaf level point u → t ≡ u
one_leaf level point t u a b =
    same_ways level point t u a.reached.0 b.reached.0
    (root level) a.agrees b.agrees a.reached.1 b.reached.1

pub some_from_is_some : {A : Type 0} (o : Option A) → IsSome o → (x : A) × (o ≡ Some x)
some_from_is_some None h = cc
some_from_is_some (Some x) h = (x, refl)

-- a node has a side for each point, and a child there
pub side_some : (level : Level) (point : Point) (n : ℕ) → n < node_count level
    → (s : Side) × (side_at level n point ≡ Some s)
side_some level point n within = elim (slice_get_cases level.nodes.records n).1 [
  | inl there ↦ (
    side_of (partition_of there.0) point,
    ap
        (λ (o : Option Node). option_map (λ found. side_of (partition_of found) point) o) there.2,
  )
  | inr past ↦ let h = past.0 in absurd (omega arith)
]

pub child_some : (level : Level) (n : ℕ) (s : Side) → IsTree level → n < node_count level
    → (p : Place) × (child level n s ≡ Some p)
child_some level n s tree within = some_from_is_some (child level n s) (tree.words n s within)

-- which is the place that its child word names
pub child_is : (level : Level) (n : ℕ) (found : Node) (s : Side) → IsTree level → slice_get level.nodes.records n ≡ Some found → child level n s ≡ Some (place_of (word_at found s))
child_is level n found s tree e =
    let some = child_some level n s tree (slice_get_within level.nodes.records n found e) in
    let opened : where_there level (place_of (word_at found s)) ≡ Some some.0 =
    sym (ap (λ (o : Option Node). option_and_then (λ found. where_there level (place_of (word_at found s))) o) e) ∙ some.1 in
    some.1 ∙ ap Some (sym (cond_some (has level (place_of (word_at found s))) (place_of (word_at found s)) some.0 opened).1)

-- each way goes on to a leaf
falls : (fuel : ℕ) (level : Level) (point : Point) (tests : ℕ) (p : Place) → IsTree level
    → OnWay level point tests p → node_count level < tests + fuel → (t : ℕ) × IsLeaf level point t
falls fuel level point tests (ssector t) tree way enough =
    (t, way_leaf level point tests t tree way)
falls zero level point tests (node n) tree way enough =
    let h = way_short level point tests (node n) tree way in absurd (omega arith)
falls (suc fuel) level point tests (node n) tree way enough =
    let within = ltb-true n (node_count level) way.there in
    let on = side_some level point n within in
    let next = child_some level n on.0 tree within in
    falls fuel level point (tests + 1) next.0 tree
    (way_down level point tests n on.0 next.0 way on.1 next.1) (omega arith)

pub some_leaf : (level : Level) (point : Point) → IsSound level → (t : ℕ) × IsLeaf level point t
some_leaf level point sound =
    falls (suc (node_count level)) level point 0 (root level) (tree_from_sound level sound)
    (way_start level point (some_ssector level sound)) (omega arith)
