-- The way of a point down from the root, and its end.
use Rattle.std.proofs.Common.{◌≡◌, ℕ, zero, suc, ◌+◌, ◌<◌, ◌≤◌, inl, inr, refl, sym, ap, ◌∙◌, subst, List, [], ◌∷◌, length, Option, Some, None, IsTrue, pos, arith}
use Rattle.std.specs.Prelude.{IsSome}
use Rattle.std.specs.Option.{option_map}
use Rattle.map_geo.specs.Partition.{Partition}
use Rattle.map_geo.specs.Side.{side_of}
use Rattle.std.proofs.lemmas.Bool.{lt-ltb, ltb-true}
use Rattle.map_geo.specs.declared.sides.Side.{Side}
use Rattle.map_geo.specs.Point.{Point}
use Rattle.node_tree.specs.Shape.{Shape}
use Rattle.map_tree.specs.Paths.{Place, node, ssector, LeadsIn}
use Rattle.node_tree.specs.Shape.{node_count, ssector_count, has, child, root, side_at}
use Rattle.node_tree.specs.Leaf.{ChildLeads, IsLeaf, CountsAncestors}
use Rattle.node_tree.specs.Sound.{IsTree, IsSound}
use Rattle.map_tree.proofs.ChainLemmas.{Turn, go, Mem, nodes_of, length_nodes_of, Chain, leads_from_chain, go_on, turn_leads, Contains-from_mem, mem_from_Contains, all_pairs_apart}
use Rattle.map_tree.proofs.TreeLemmas.{chain_apart, chain_short, node_deep, turn_in}
use Rattle.node_tree.proofs.SoundLemmas.{parent_in, child_there, once_from_tree, reached_there, sound_root_there, tree_from_sound}

-- each turn is to the side on which the point lies
abbrev pub Agree : Shape → Point → List Turn → Type 0
Agree shape point [] = Unit {0}
Agree shape point (go n s ∷ ts) = (side_at shape n point ≡ Some s) × Agree shape point ts

Agree-at : (shape : Shape) (point : Point) (ts : List Turn) (n : ℕ) (s : Side)
    → Agree shape point ts → Mem (go n s) ts → side_at shape n point ≡ Some s
Agree-at shape point [] n s a h = elim h [ ]
Agree-at shape point (go m u ∷ ts) n s a (inl e) =
    let same_node : n ≡ m = cc in
    let same_side : s ≡ u = cc in
    rw (same_node, same_side) a.0
Agree-at shape point (go m u ∷ ts) n s a (inr h) = Agree-at shape point ts n s a.1 h

-- a place, so many turns below the root, to which the sides of the point lead
pub record OnWay (shape : Shape) (point : Point) (tests : ℕ) (p : Place) : Type 0 where
  pub turns : List Turn
  pub is : Chain (child shape) (root shape) turns p
  pub agree : Agree shape point turns
  pub long : length turns ≡ tests
  pub there : IsTrue (has shape p)

pub way_start : (shape : Shape) (point : Point) → IsSound shape → OnWay shape point 0 (root shape)
way_start shape point sound =
    record { turns = []; is = refl; agree = tt; long = refl; there = sound_root_there shape sound }

pub way_down : (shape : Shape) (point : Point) (tests n : ℕ) (s : Side) (p : Place)
    → OnWay shape point tests (node n) → side_at shape n point ≡ Some s → child shape n s ≡ Some p
    → OnWay shape point (tests + 1) p
way_down shape point tests n s p way on e = record {
  turns = go n s ∷ way.turns;
  is = (e, way.is);
  agree = (on, way.agree);
  long = omega (arith, way.long);
  there = child_there shape n s p e;
}

pub way_short : (shape : Shape) (point : Point) (tests : ℕ) (p : Place) → IsTree shape
    → OnWay shape point tests p → tests ≤ node_count shape
way_short shape point tests p tree way =
    omega (
      arith,
      way.long,
      chain_short (child shape) (node_count shape) (root shape)
          (once_from_tree shape tree) way.turns p way.is,
    )

pub way_deep : (shape : Shape) (point : Point) (tests n : ℕ) → IsTree shape
    → OnWay shape point tests (node n) → tests < node_count shape
way_deep shape point tests n tree way =
    omega (
      arith,
      way.long,
      node_deep (child shape) (node_count shape) (root shape)
          (once_from_tree shape tree) way.turns n (ltb-true n (node_count shape) way.there) way.is,
    )

-- a turn of a chain is each node and side whose child leads to its end
turn_above : (shape : Shape) (ts : List Turn) (p : Place) (n : ℕ) (s : Side) → IsTree shape
    → Chain (child shape) (root shape) ts p → ChildLeads shape n s p → Mem (go n s) ts
turn_above shape ts p n s tree chain leads =
    let up =
    tree.reached (node n) (lt-ltb n (node_count shape) (parent_in shape n s leads.0 leads.1)) in
    let above = go_on (child shape) up.0 (root shape) (root shape) (node n) [] refl up.1 in
    turn_in (child shape) (node_count shape) (root shape)
    (once_from_tree shape tree) ts above.turns p leads.0 n s chain above.is leads.1 leads.2

pub way_leaf : (shape : Shape) (point : Point) (tests t : ℕ) → IsTree shape
    → OnWay shape point tests (ssector t) → IsLeaf shape point t
way_leaf shape point tests t tree way = record {
  reached =
      (length way.turns, leads_from_chain (child shape) way.turns (root shape) (ssector t) way.is);
  agrees =
      λ n s leads.
      Agree-at shape point way.turns n s way.agree
      (turn_above shape way.turns (ssector t) n s tree way.is leads);
}

pub mem_nodes : (ts : List Turn) (n : ℕ) (s : Side) → Mem (go n s) ts → Mem n (nodes_of ts)
mem_nodes [] n s h = elim h [ ]
mem_nodes (go m u ∷ ts) n s (inl e) = let same : n ≡ m = cc in inl same
mem_nodes (go m u ∷ ts) n s (inr h) = inr (mem_nodes ts n s h)

mem_turn : (ts : List Turn) (n : ℕ) → Mem n (nodes_of ts) → (s : Side) × Mem (go n s) ts
mem_turn [] n h = elim h [ ]
mem_turn (go m u ∷ ts) n (inl e) = (u, inl (ap (λ x. go x u) e))
mem_turn (go m u ∷ ts) n (inr h) = let r = mem_turn ts n h in (r.0, inr r.1)

-- a place's ancestors are the nodes of its chain
pub chain_ancestors : (shape : Shape) (turns : List Turn) (t : ℕ) → IsTree shape
    → Chain (child shape) (root shape) turns (ssector t) → CountsAncestors shape t (length turns)
chain_ancestors shape turns t tree is = record {
  ancestors = nodes_of turns;
  distinct =
      all_pairs_apart (nodes_of turns)
      (chain_apart (child shape) (node_count shape) (root shape) (once_from_tree shape tree) turns
      (ssector t) is);
  exact = λ n. (
    (λ h.
        let r = mem_turn turns n (mem_from_Contains (nodes_of turns) n h) in
        (r.0, turn_leads (child shape) turns (root shape) (ssector t) n r.0 is r.1)),
    (λ h. Contains-from_mem (nodes_of turns) n (mem_nodes turns n h.0
        (turn_above shape turns (ssector t) n h.0 tree is h.1))),
  );
  many = length_nodes_of turns;
}

pub way_tests : (shape : Shape) (point : Point) (tests t : ℕ) → IsTree shape
    → OnWay shape point tests (ssector t) → CountsAncestors shape t tests
way_tests shape point tests t tree way =
    subst (λ count. CountsAncestors shape t count) way.long
    (chain_ancestors shape way.turns t tree way.is)

-- at most one ssector is a leaf below a place: the sides at each node are the point's
same_ways : (shape : Shape) (point : Point) (t u k j : ℕ) (p : Place)
    → ((n : ℕ) (s : Side) → ChildLeads shape n s (ssector t) → side_at shape n point ≡ Some s)
    → ((n : ℕ) (s : Side) → ChildLeads shape n s (ssector u) → side_at shape n point ≡ Some s)
    → LeadsIn (child shape) k p (ssector t) → LeadsIn (child shape) j p (ssector u) → t ≡ u
same_ways shape point t u zero zero p a b h k = let e : ssector t ≡ ssector u = sym h ∙ k in cc
same_ways shape point t u zero (suc j) (node n) a b h k = cc
same_ways shape point t u zero (suc j) (ssector v) a b h k = elim k [ ]
same_ways shape point t u (suc k) j (ssector v) a b h l = elim h [ ]
same_ways shape point t u (suc k) zero (node n) a b h l = cc
same_ways shape point t u (suc k) (suc j) (node n) a b h l =
    let one = a n h.0 (h.1, h.2, (k, h.3)) in
    let other = b n l.0 (l.1, l.2, (j, l.3)) in
    let some : Some h.0 ≡ Some l.0 = sym one ∙ other in
    let sides : h.0 ≡ l.0 = cc in
    let same : Some h.1 ≡ Some l.1 = sym h.2 ∙ (ap (child shape n) sides ∙ l.2) in
    let next : h.1 ≡ l.1 = cc in
    same_ways shape point t u k j h.1 a b h.3
    (subst (λ x. LeadsIn (child shape) j x (ssector u)) (sym next) l.3)

pub one_leaf : (shape : Shape) (point : Point) (t u : ℕ) → IsLeaf shape point t
    → IsLeaf shape point u → t ≡ u
one_leaf shape point t u a b =
    same_ways shape point t u a.reached.0 b.reached.0
    (root shape) a.agrees b.agrees a.reached.1 b.reached.1

pub some_from_is_some : {A : Type 0} (o : Option A) → IsSome o → (x : A) × (o ≡ Some x)
some_from_is_some None h = cc
some_from_is_some (Some x) h = (x, refl)

-- a node has a side for each point, and a child there
pub side_some : (shape : Shape) (point : Point) (n : ℕ) → n < node_count shape
    → (s : Side) × (side_at shape n point ≡ Some s)
side_some shape point n within =
    let line = some_from_is_some (shape.partition n) (shape.lined n within) in (
      side_of line.0 point,
      ap (λ (o : Option Partition). option_map (λ line. side_of line point) o) line.1,
    )

pub child_some : (shape : Shape) (n : ℕ) (s : Side) → IsTree shape → n < node_count shape
    → (p : Place) × (child shape n s ≡ Some p)
child_some shape n s tree within = some_from_is_some (child shape n s) (tree.words n s within)

-- each way goes on to a leaf
falls : (fuel : ℕ) (shape : Shape) (point : Point) (tests : ℕ) (p : Place) → IsTree shape
    → OnWay shape point tests p → node_count shape < tests + fuel → (t : ℕ) × IsLeaf shape point t
falls fuel shape point tests (ssector t) tree way enough =
    (t, way_leaf shape point tests t tree way)
falls zero shape point tests (node n) tree way enough =
    let h = way_short shape point tests (node n) tree way in absurd (omega arith)
falls (suc fuel) shape point tests (node n) tree way enough =
    let within = ltb-true n (node_count shape) way.there in
    let on = side_some shape point n within in
    let next = child_some shape n on.0 tree within in
    falls fuel shape point (tests + 1) next.0 tree
    (way_down shape point tests n on.0 next.0 way on.1 next.1) (omega arith)

pub some_leaf : (shape : Shape) (point : Point) → IsSound shape → (t : ℕ) × IsLeaf shape point t
some_leaf shape point sound =
    falls (suc (node_count shape)) shape point 0 (root shape) (tree_from_sound shape sound)
    (way_start shape point sound) (omega arith)

-- a leaf is there
pub leaf_within : (shape : Shape) (point : Point) (t : ℕ) → IsSound shape → IsLeaf shape point t
    → t < ssector_count shape
leaf_within shape point t sound leaf =
    ltb-true t (ssector_count shape) (reached_there shape (ssector t) sound leaf.reached)

-- so a sound tree has an ssector
pub some_ssector : (shape : Shape) → IsSound shape → 0 < ssector_count shape
some_ssector shape sound =
    let origin : Point = record { x = pos 0; y = pos 0 } in
    let leaf = some_leaf shape origin sound in
    let within = leaf_within shape origin leaf.0 sound leaf.1 in omega (arith, within)
