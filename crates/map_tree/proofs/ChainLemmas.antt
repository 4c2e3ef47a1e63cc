-- The turns by which a descent comes from a base to a place, the last one first.
use Rattle.std.proofs.Common.{◌≡◌, ℕ, zero, suc, ◌+◌, ◌<◌, ◌≤◌, ◌⊎◌, inl, inr, refl, sym, ap, subst, List, [], ◌∷◌, length, Option, Some, false, true, eqb, arith}
use Rattle.std.specs.Prelude.{AllPairs, Contains, ◌≢◌, slice_index_or}
use Rattle.std.specs.List.{IsDistinct, list_any, AllByRecursion}
use Rattle.std.proofs.lemmas.Bool.Decides.{eqb_tells}
use Rattle.std.proofs.lemmas.Map.Steps.{length-le_from_distinct_below}
use Rattle.map_geo.specs.declared.sides.Side.{Side}
use Rattle.map_tree.specs.Paths.{Place, node, ssector, LeadsIn, Leads}

-- at a node to a side
pub data Turn : Type 0 where
  go : ℕ → Side → Turn

abbrev pub node_of : Turn → ℕ
node_of (go n s) = n

abbrev pub Mem : {X : Type 0} → X → List X → Type 0
Mem x [] = ⊥
Mem x (y ∷ ys) = (x ≡ y) ⊎ Mem x ys

abbrev pub Apart : List ℕ → Type 0
Apart [] = Unit {0}
Apart (x ∷ xs) = (Mem x xs → ⊥) × Apart xs

abbrev pub nodes_of : List Turn → List ℕ
nodes_of [] = []
nodes_of (go n s ∷ ts) = n ∷ nodes_of ts

pub length_nodes_of : (ts : List Turn) → length (nodes_of ts) ≡ length ts
length_nodes_of [] = refl
length_nodes_of (go n s ∷ ts) = ap suc (length_nodes_of ts)

-- numbers below n, each once, are at most n
differ : (x : ℕ) (xs : List ℕ) → (Mem x xs → ⊥) → AllByRecursion (λ y. eqb x y ≡ false) xs
differ x [] out = tt
differ x (y ∷ ys) out =
    elim (eqb_tells x y) [
      | inl r ↦ absurd (out (inl r.1))
      | inr r ↦ (r.0, differ x ys (λ h. out (inr h)))
    ]

distinct : (xs : List ℕ) → Apart xs → IsDistinct eqb xs
unfolding IsDistinct
distinct [] a = tt
distinct (x ∷ xs) a = (differ x xs a.0, distinct xs a.1)

mem_from : (q : ℕ) (xs : List ℕ) → list_any (eqb q) xs ≡ true → Mem q xs
mem_from q [] e = cc
mem_from q (x ∷ xs) e =
    elim (eqb_tells q x) [ inl r ↦ inl r.1 | inr r ↦ inr (mem_from q xs (rw r.0 at e)) ]

pub pigeons : (xs : List ℕ) (n : ℕ) → Apart xs → ((q : ℕ) → Mem q xs → q < n) → length xs ≤ n
pigeons xs n a h = length-le_from_distinct_below xs n (distinct xs a) (λ q e. h q (mem_from q xs e))

-- the same in the words of clauses
pub Contains-from_mem : (xs : List ℕ) (x : ℕ) → Mem x xs → Contains xs x
Contains-from_mem [] x h = elim h [ ]
Contains-from_mem (y ∷ ys) x (inl e) = (0, omega arith, sym e)
Contains-from_mem (y ∷ ys) x (inr h) =
    let r = Contains-from_mem ys x h in (suc r.0, omega (arith, r.1), r.2)

mem_at : (xs : List ℕ) (k d : ℕ) → k < length xs → Mem (slice_index_or xs k d) xs
mem_at [] k d h = absurd (omega arith)
mem_at (x ∷ xs) zero d h = inl refl
mem_at (x ∷ xs) (suc k) d h = inr (mem_at xs k d (omega arith))

pub mem_from_Contains : (xs : List ℕ) (x : ℕ) → Contains xs x → Mem x xs
mem_from_Contains xs x h = subst (λ y. Mem y xs) h.2 (mem_at xs h.0 x h.1)

pub all_pairs_apart : (xs : List ℕ) → Apart xs → AllPairs (λ n m. n ≢ m) xs
all_pairs_apart [] a i j d below within = absurd (omega (arith, within))
all_pairs_apart (x ∷ xs) a zero zero d below within = absurd (omega (arith, below))
all_pairs_apart (x ∷ xs) a zero (suc j) d below within =
    λ e. a.0 (subst (λ y. Mem y xs) (sym e) (mem_at xs j d (omega (arith, within))))
all_pairs_apart (x ∷ xs) a (suc i) zero d below within = absurd (omega (arith, below))
all_pairs_apart (x ∷ xs) a (suc i) (suc j) d below within =
    all_pairs_apart xs a.1 i j d (omega (arith, below)) (omega (arith, within))

module _ (child : ℕ → Side → Option Place) where
  abbrev pub Chain : Place → List Turn → Place → Type 0
  Chain base [] p = p ≡ base
  Chain base (go n s ∷ ts) p = (child n s ≡ Some p) × Chain base ts (node n)

  -- one step more at the end
  pub leads_more : (k : ℕ) (r p : Place) (n : ℕ) (s : Side) → LeadsIn child k r (node n)
      → child n s ≡ Some p → LeadsIn child (suc k) r p
  leads_more zero r p n s h e = subst (λ x. LeadsIn child 1 x p) (sym h) (s, p, e, refl)
  leads_more (suc k) (node m) p n s h e = (h.0, h.1, h.2, leads_more k h.1 p n s h.3 e)
  leads_more (suc k) (ssector t) p n s h e = elim h [ ]

  -- a chain is a way from its base
  pub leads_from_chain : (ts : List Turn) (base p : Place) → Chain base ts p
      → LeadsIn child (length ts) base p
  leads_from_chain [] base p a = sym a
  leads_from_chain (go n s ∷ ts) base p a =
      leads_more (length ts) base p n s (leads_from_chain ts base (node n) a.1) a.0

  -- a chain goes on by a way from its end
  pub record GoesOn (base : Place) (ts : List Turn) (steps : ℕ) (p : Place) : Type 0 where
    pub turns : List Turn
    pub is : Chain base turns p
    pub long : length turns ≡ length ts + steps
    pub keeps : (x : Turn) → Mem x ts → Mem x turns

  pub go_on : (k : ℕ) (base r p : Place) (ts : List Turn) → Chain base ts r → LeadsIn child k r p
      → GoesOn base ts k p
  go_on zero base r p ts a h =
      record {
        turns = ts;
        is = subst (λ x. Chain base ts x) h a;
        long = omega arith;
        keeps = λ x m. m;
      }
  go_on (suc k) base (ssector t) p ts a h = elim h [ ]
  go_on (suc k) base (node n) p ts a h =
      let r = go_on k base h.1 p (go n h.0 ∷ ts) (h.2, a) h.3 in
      record {
        turns = r.turns;
        is = r.is;
        long = omega (arith, r.long);
        keeps = λ x m. r.keeps x (inr m);
      }

  -- each turn of a chain leads to its end
  pub turn_leads : (ts : List Turn) (base p : Place) (n : ℕ) (s : Side) → Chain base ts p
      → Mem (go n s) ts → (next : Place) × (child n s ≡ Some next) × Leads child next p
  turn_leads [] base p n s a h = elim h [ ]
  turn_leads (go m u ∷ ts) base p n s a (inl e) =
      let same_node : n ≡ m = cc in
      let same_side : s ≡ u = cc in
      (p, rw (same_node, same_side) a.0, (0, refl))
  turn_leads (go m u ∷ ts) base p n s a (inr h) =
      let r = turn_leads ts base (node m) n s a.1 h in
      (r.0, r.1, (suc r.2.0, leads_more r.2.0 r.0 p m u r.2.1 a.0))
