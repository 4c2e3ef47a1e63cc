-- Where each place is named at most once and the root never, a place has one chain, which is at
-- most as long as there are nodes.
use Rattle.std.proofs.Common.{◌≡◌, ℕ, suc, ◌<◌, ◌≤◌, inl, inr, refl, sym, ap, ◌∙◌, subst, List, [], ◌∷◌, length, Option, Some, arith}
use Rattle.map_geo.specs.declared.sides.Side.{Side}
use Rattle.map_tree.specs.Paths.{Place, node, LeadsIn, Leads}
use Rattle.map_tree.proofs.ChainLemmas.{Turn, go, Mem, Apart, nodes_of, length_nodes_of, pigeons, Chain, go_on}

pub record IsOnce (child : ℕ → Side → Option Place) (count : ℕ) (root : Place) : Type 0 where
  pub once : (n m : ℕ) (s u : Side) (p : Place) → child n s ≡ Some p → child m u ≡ Some p
      → (n ≡ m) × (s ≡ u)
  pub not_root : (n : ℕ) (s : Side) → child n s ≡ Some root → ⊥
  pub parent_in : (n : ℕ) (s : Side) (p : Place) → child n s ≡ Some p → n < count

module _ (child : ℕ → Side → Option Place) (count : ℕ) (root : Place)
    (tree : IsOnce child count root) where
  pub chain_once : (ts us : List Turn) (p : Place) → Chain child root ts p → Chain child root us p
      → ts ≡ us
  chain_once [] [] p a b = refl
  chain_once [] (go m u ∷ us) p a b = absurd (tree.not_root m u (b.0 ∙ ap Some a))
  chain_once (go n s ∷ ts) [] p a b = absurd (tree.not_root n s (a.0 ∙ ap Some b))
  chain_once (go n s ∷ ts) (go m u ∷ us) p a b =
      let same = tree.once n m s u p a.0 b.0 in
      let same_node = same.0 in
      let same_side = same.1 in
      let tails = chain_once ts us (node n) a.1 (rw same_node b.1) in
      cc

  -- a node in a chain has a shorter one
  shorter : (ts : List Turn) (p : Place) (m : ℕ) → Chain child root ts p → Mem m (nodes_of ts)
      → (us : List Turn) × Chain child root us (node m) × (length us < length ts)
  shorter [] p m a h = elim h [ ]
  shorter (go n s ∷ ts) p m a (inl e) = (ts, rw e a.1, omega arith)
  shorter (go n s ∷ ts) p m a (inr h) =
      let r = shorter ts (node n) m a.1 h in (r.0, r.1, omega (arith, r.2))

  pub not_above : (ts : List Turn) (m : ℕ) → Chain child root ts (node m) → Mem m (nodes_of ts) → ⊥
  not_above ts m a h =
      let r = shorter ts (node m) m a h in
      let e = chain_once ts r.0 (node m) a r.1 in
      omega (arith, r.2, ap length e)

  pub chain_apart : (ts : List Turn) (p : Place) → Chain child root ts p → Apart (nodes_of ts)
  chain_apart [] p a = tt
  chain_apart (go n s ∷ ts) p a = (not_above ts n a.1, chain_apart ts (node n) a.1)

  chain_in : (ts : List Turn) (p : Place) (q : ℕ) → Chain child root ts p → Mem q (nodes_of ts)
      → q < count
  chain_in [] p q a h = elim h [ ]
  chain_in (go n s ∷ ts) p q a (inl e) = rw e (tree.parent_in n s p a.0)
  chain_in (go n s ∷ ts) p q a (inr h) = chain_in ts (node n) q a.1 h

  -- no place has more nodes above it than there are
  pub chain_short : (ts : List Turn) (p : Place) → Chain child root ts p → length ts ≤ count
  chain_short ts p a =
      rw (← length_nodes_of ts)
      (pigeons (nodes_of ts) count (chain_apart ts p a) (λ q h. chain_in ts p q a h))

  -- and a node has fewer
  pub node_deep : (ts : List Turn) (n : ℕ) → n < count → Chain child root ts (node n)
      → suc (length ts) ≤ count
  node_deep ts n within a =
      rw (← length_nodes_of ts) (pigeons (n ∷ nodes_of ts) count
      (not_above ts n a, chain_apart ts (node n) a)
      (λ q h. elim h [ inl e ↦ rw e within | inr k ↦ chain_in ts (node n) q a k ]))

  pub depth_short : (k : ℕ) (p : Place) → LeadsIn child k root p → k ≤ count
  depth_short k p h =
      let r = go_on child k root root p [] refl h in
      omega (arith, r.long, chain_short r.turns p r.is)

  -- a node and side whose child leads to a place stand in the place's chain, where the node has one
  pub turn_in : (ts us : List Turn) (p next : Place) (n : ℕ) (s : Side) → Chain child root ts p
      → Chain child root us (node n) → child n s ≡ Some next → Leads child next p → Mem (go n s) ts
  turn_in ts us p next n s a b e leads =
      let r = go_on child leads.0 root next p (go n s ∷ us) (e, b) leads.1 in
      subst (λ x. Mem (go n s) x) (sym (chain_once ts r.turns p a r.is))
      (r.keeps (go n s) (inl refl))
