-- In a sound level the sizes of the places add up, and the root's is at most the number of nodes.
use Rattle.std.proofs.Common.{◌≡◌, ℕ, zero, suc, ◌+◌, ◌<◌, ◌≤◌, ◌⊎◌, inl, inr, refl, sym, ap, ◌∙◌, subst, List, [], ◌∷◌, ◌++◌, length, length-append, Option, Some, None, IsTrue, arith}
use Rattle.std.specs.Option.{option_map_or}
use Rattle.std.proofs.lemmas.Bool.{lt-ltb, ltb-true}
use Rattle.map_geo.specs.declared.sides.Side.{Side}
use Rattle.map_geo.specs.declared.sides.Side.TheVariants.{Front, Back}
use Rattle.map_geo.specs.Point.{Point}
use Rattle.map_level.specs.Level.{Level}
use Rattle.map_tree.specs.Paths.{Place, node, ssector, Leads}
use Rattle.map_tree.specs.Child.{node_count, has, child, root}
use Rattle.map_tree.specs.Leaf.{IsLeaf}
use Rattle.map_tree.proofs.Sizes.{size_in, size_of, AreSizes, Falls, there, down}
use Rattle.map_tree.specs.Sound.{IsTree, IsSound}
use Rattle.map_tree.proofs.ChainLemmas.{Turn, go, Mem, Apart, nodes_of, pigeons, Chain, go_on}
use Rattle.map_tree.proofs.TreeLemmas.{chain_once, chain_apart, node_deep, not_above}
use Rattle.map_tree.proofs.SoundLemmas.{parent_in, child_there, once_from_tree, tree_from_sound, some_ssector, root_there}
use Rattle.map_tree.proofs.LeafLemmas.{mem_nodes, child_some, OnWay, way_start, way_down, way_leaf}

-- equal at each place that is there
same_there : (f g : Place → ℕ) (o : Option Place) → ((p : Place) → o ≡ Some p → f p ≡ g p) → option_map_or f o 0 ≡ option_map_or g o 0
same_there f g None same = refl
same_there f g (Some p) same = same p refl

less_one : (n count : ℕ) → n < count → (fuel : ℕ) × (count ≡ suc fuel)
less_one n zero h = absurd (omega arith)
less_one n (suc fuel) h = (fuel, refl)

mem_append : (m : ℕ) (xs ys : List ℕ) → Mem m (xs ++ ys) → Mem m xs ⊎ Mem m ys
mem_append m [] ys h = inr h
mem_append m (x ∷ xs) ys (inl e) = inl (inl e)
mem_append m (x ∷ xs) ys (inr h) = elim (mem_append m xs ys h) [ inl a ↦ inl (inr a) | inr b ↦ inr b ]

apart_append : (xs ys : List ℕ) → Apart xs → Apart ys → ((m : ℕ) → Mem m xs → Mem m ys → ⊥) → Apart (xs ++ ys)
apart_append [] ys a b out = b
apart_append (x ∷ xs) ys a b out =
    (λ h. elim (mem_append x xs ys h) [ inl k ↦ a.0 k | inr k ↦ out x (inl refl) k ], apart_append xs ys a.1 b (λ m h k. out m (inr h) k))

-- a node stands in a chain with one side
one_side : (ts : List Turn) (n : ℕ) (s u : Side) → Apart (nodes_of ts) → Mem (go n s) ts → Mem (go n u) ts → s ≡ u
one_side [] n s u apart h k = elim h [ ]
one_side (go m v ∷ ts) n s u apart (inl e) (inl f) = cc
one_side (go m v ∷ ts) n s u apart (inl e) (inr k) = let same : n ≡ m = cc in absurd (apart.0 (subst (λ x. Mem x (nodes_of ts)) same (mem_nodes ts n u k)))
one_side (go m v ∷ ts) n s u apart (inr h) (inl f) = let same : n ≡ m = cc in absurd (apart.0 (subst (λ x. Mem x (nodes_of ts)) same (mem_nodes ts n s h)))
one_side (go m v ∷ ts) n s u apart (inr h) (inr k) = one_side ts n s u apart.1 h k

module _ (level : Level) where
  size_node : (count fuel n : ℕ) → count ≡ suc fuel
      → size_in level count (node n) ≡ suc (option_map_or (size_in level fuel) (child level n Front) 0 + option_map_or (size_in level fuel) (child level n Back) 0)
  size_node count fuel n e = rw e refl

  size_some : (fuel n : ℕ) → 0 < size_in level fuel (node n)
  size_some zero n = omega arith
  size_some (suc fuel) n = omega arith

  -- the nodes at or below a place, in a tree no deeper than the fuel
  abbrev below : ℕ → Place → List ℕ
  below fuel (ssector t) = []
  below zero (node n) = n ∷ []
  below (suc fuel) (node n) = n ∷ (option_map_or (below fuel) (child level n Front) [] ++ option_map_or (below fuel) (child level n Back) [])

  abbrev below_there : ℕ → Option Place → List ℕ
  below_there fuel next = option_map_or (below fuel) next []

  length_there : (fuel : ℕ) (o : Option Place) → ((p : Place) → length (below fuel p) ≡ size_in level fuel p) → length (below_there fuel o) ≡ option_map_or (size_in level fuel) o 0
  length_there fuel None same = refl
  length_there fuel (Some p) same = same p

  length_below : (fuel : ℕ) (p : Place) → length (below fuel p) ≡ size_in level fuel p
  length_below fuel (ssector t) = refl
  length_below zero (node n) = refl
  length_below (suc fuel) (node n) =
      let front = length_there fuel (child level n Front) (λ p. length_below fuel p) in
      let back = length_there fuel (child level n Back) (λ p. length_below fuel p) in
      ap suc (length-append (below_there fuel (child level n Front)) (below_there fuel (child level n Back)) ∙ rw (front, back) refl)

  mem_there : (m fuel : ℕ) (o : Option Place) → Mem m (below_there fuel o) → (p : Place) × (o ≡ Some p) × Mem m (below fuel p)
  mem_there m fuel None h = elim h [ ]
  mem_there m fuel (Some p) h = (p, refl, h)

  apart_there : (fuel : ℕ) (o : Option Place) → ((p : Place) → o ≡ Some p → Apart (below fuel p)) → Apart (below_there fuel o)
  apart_there fuel None h = tt
  apart_there fuel (Some p) h = h p refl

  -- a node below a place is there, and the place leads to it
  below_leads : (fuel : ℕ) (p : Place) (m : ℕ) → IsTrue (has level p) → Mem m (below fuel p) → IsTrue (has level (node m)) × Leads (child level) p (node m)
  below_leads fuel (ssector t) m here h = elim h [ ]
  below_leads zero (node n) m here (inl e) = (subst (λ x. IsTrue (has level (node x))) (sym e) here, (0, ap node (sym e)))
  below_leads zero (node n) m here (inr h) = elim h [ ]
  below_leads (suc fuel) (node n) m here (inl e) = (subst (λ x. IsTrue (has level (node x))) (sym e) here, (0, ap node (sym e)))
  below_leads (suc fuel) (node n) m here (inr h) =
      elim (mem_append m (below_there fuel (child level n Front)) (below_there fuel (child level n Back)) h) [
        | inl k ↦
            let next = mem_there m fuel (child level n Front) k in
            let r = below_leads fuel next.0 m (child_there level n Front next.0 next.1) next.2 in
            (r.0, (suc r.1.0, (Front, next.0, next.1, r.1.1)))
        | inr k ↦
            let next = mem_there m fuel (child level n Back) k in
            let r = below_leads fuel next.0 m (child_there level n Back next.0 next.1) next.2 in
            (r.0, (suc r.1.0, (Back, next.0, next.1, r.1.1)))
      ]

  module _ (tree : IsTree level) where
    abbrev Up : List Turn → Place → Type 0
    Up ts p = Chain (child level) (root level) ts p

    -- with enough fuel one more changes nothing
    stable : (fuel : ℕ) (p : Place) (ts : List Turn) → Up ts p → IsTrue (has level p) → node_count level ≤ length ts + fuel
        → size_in level fuel p ≡ size_in level (suc fuel) p
    stable fuel (ssector t) ts up here enough = refl
    stable zero (node n) ts up here enough =
        let deep = node_deep (child level) (node_count level) (root level) (once_from_tree level tree) ts n (ltb-true n (node_count level) here) up in
        absurd (omega arith)
    stable (suc fuel) (node n) ts up here enough =
        let front = same_there (size_in level fuel) (size_in level (suc fuel)) (child level n Front)
        (λ p e. stable fuel p (go n Front ∷ ts) (e, up) (child_there level n Front p e) (omega (arith, enough))) in
        let back = same_there (size_in level fuel) (size_in level (suc fuel)) (child level n Back)
        (λ p e. stable fuel p (go n Back ∷ ts) (e, up) (child_there level n Back p e) (omega (arith, enough))) in
        ap (λ k. suc (k + option_map_or (size_in level fuel) (child level n Back) 0)) front ∙ ap (λ k. suc (option_map_or (size_in level (suc fuel)) (child level n Front) 0 + k)) back

    child_size : (n fuel : ℕ) (s : Side) (p : Place) → node_count level ≡ suc fuel → child level n s ≡ Some p → size_in level fuel p ≡ size_of level p
    child_size n fuel s p count e =
        let up = tree.reached (node n) (lt-ltb n (node_count level) (parent_in level n s p e)) in
        let above = go_on (child level) up.0 (root level) (root level) (node n) [] refl up.1 in
        stable fuel p (go n s ∷ above.turns) (e, above.is) (child_there level n s p e) (omega (arith, count)) ∙ ap (λ k. size_in level k p) (sym count)

    size_children : (n : ℕ) (p q : Place) → child level n Front ≡ Some p → child level n Back ≡ Some q → size_of level (node n) ≡ suc (size_of level p + size_of level q)
    size_children n p q e f =
        let fuel = less_one n (node_count level) (parent_in level n Front p e) in
        let front = ap (λ o. option_map_or (size_in level fuel.0) o 0) e ∙ child_size n fuel.0 Front p fuel.1 e in
        let back = ap (λ o. option_map_or (size_in level fuel.0) o 0) f ∙ child_size n fuel.0 Back q fuel.1 f in
        size_node (node_count level) fuel.0 n fuel.1 ∙ (ap (λ k. suc (k + option_map_or (size_in level fuel.0) (child level n Back) 0)) front ∙ ap (λ k. suc (size_of level p + k)) back)

    size_child : (n : ℕ) (s : Side) (p : Place) → child level n s ≡ Some p → size_of level p < size_of level (node n)
    size_child n Front p e =
        let other = child_some level n Back tree (parent_in level n Front p e) in
        omega (arith, size_children n p other.0 e other.1)
    size_child n Back p e =
        let other = child_some level n Front tree (parent_in level n Back p e) in
        omega (arith, size_children n other.0 p other.1 e)

    -- what a child leads to has its turn in its chain
    chain_through : (ts : List Turn) (n m : ℕ) (s : Side) (next : Place) → Up ts (node n) → child level n s ≡ Some next → Leads (child level) next (node m) → (us : List Turn) × Up us (node m) × Mem (go n s) us
    chain_through ts n m s next up e leads =
        let r = go_on (child level) leads.0 (root level) next (node m) (go n s ∷ ts) (e, up) leads.1 in
        (r.turns, r.is, r.keeps (go n s) (inl refl))

    below_through : (fuel n m : ℕ) (s : Side) (ts : List Turn) → Up ts (node n) → Mem m (below_there fuel (child level n s)) → (us : List Turn) × Up us (node m) × Mem (go n s) us
    below_through fuel n m s ts up h =
        let next = mem_there m fuel (child level n s) h in
        chain_through ts n m s next.0 up next.1 (below_leads fuel next.0 m (child_there level n s next.0 next.1) next.2).1

    not_below : (fuel n : ℕ) (s : Side) (ts : List Turn) → Up ts (node n) → Mem n (below_there fuel (child level n s)) → ⊥
    not_below fuel n s ts up h =
        let r = below_through fuel n n s ts up h in
        not_above (child level) (node_count level) (root level) (once_from_tree level tree) r.0 n r.1 (mem_nodes r.0 n s r.2)

    not_both : (fuel n m : ℕ) (ts : List Turn) → Up ts (node n) → Mem m (below_there fuel (child level n Front)) → Mem m (below_there fuel (child level n Back)) → ⊥
    not_both fuel n m ts up h k =
        let once = once_from_tree level tree in
        let front = below_through fuel n m Front ts up h in
        let back = below_through fuel n m Back ts up k in
        let same = chain_once (child level) (node_count level) (root level) once back.0 front.0 (node m) back.1 front.1 in
        let apart = chain_apart (child level) (node_count level) (root level) once front.0 (node m) front.1 in
        let sides : Front ≡ Back = one_side front.0 n Front Back apart front.2 (subst (λ us. Mem (go n Back) us) same back.2) in
        cc

    below_apart : (fuel : ℕ) (p : Place) (ts : List Turn) → Up ts p → Apart (below fuel p)
    below_apart fuel (ssector t) ts up = tt
    below_apart zero (node n) ts up = (λ h. h, tt)
    below_apart (suc fuel) (node n) ts up = (
      (λ h. elim (mem_append n (below_there fuel (child level n Front)) (below_there fuel (child level n Back)) h) [
        | inl k ↦ not_below fuel n Front ts up k
        | inr k ↦ not_below fuel n Back ts up k
      ]),
      apart_append (below_there fuel (child level n Front)) (below_there fuel (child level n Back))
          (apart_there fuel (child level n Front) (λ p e. below_apart fuel p (go n Front ∷ ts) (e, up)))
          (apart_there fuel (child level n Back) (λ p e. below_apart fuel p (go n Back ∷ ts) (e, up)))
          (λ m h k. not_both fuel n m ts up h k),
    )

pub sizes-from_sound : (level : Level) → IsSound level → AreSizes level (size_of level)
sizes-from_sound level sound =
    let tree = tree_from_sound level sound in
    record {
      at_ssector = λ t. refl;
      some = λ n within. size_some level (node_count level) n;
      at_child = size_child level tree;
      at_node = size_children level tree;
    }

pub size-of_root : (level : Level) → IsSound level → size_of level (root level) ≤ node_count level
size-of_root level sound =
    let tree = tree_from_sound level sound in
    let count = node_count level in
    let here = root_there level (some_ssector level sound) in
    let within : (n : ℕ) → Mem n (below level count (root level)) → n < count = λ n h. ltb-true n count (below_leads level count (root level) n here h).0 in
    rw (← length_below level count (root level)) (pigeons (below level count (root level)) count (below_apart level tree count (root level) [] refl) within)

-- where the sides of a point lead from a place on its way is its leaf
leaf-from_way : (level : Level) (point : Point) (tests : ℕ) (p : Place) (t : ℕ) → IsTree level → OnWay level point tests p → Falls level point p t → IsLeaf level point t
leaf-from_way level point tests _ _ tree way (there t) = way_leaf level point tests t tree way
leaf-from_way level point tests _ _ tree way (down n s next t on e rest) = leaf-from_way level point (tests + 1) next t tree (way_down level point tests n s next way on e) rest

pub leaf-from_falls : (level : Level) (point : Point) (t : ℕ) → IsSound level → Falls level point (root level) t → IsLeaf level point t
leaf-from_falls level point t sound falls =
    leaf-from_way level point 0 (root level) t (tree_from_sound level sound) (way_start level point (some_ssector level sound)) falls
