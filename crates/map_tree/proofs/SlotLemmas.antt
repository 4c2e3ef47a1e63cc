-- Facts about the slots of a level's places.
use Rattle.std.proofs.Common.{◌≡◌, ℕ, ◌+◌, ◌<◌, inl, inr, sym, ap, ◌∙◌, subst, Option, Some, None, IsTrue, arith}
use Rattle.std.specs.Option.{option_map}
use Rattle.std.proofs.lemmas.Bool.{lt-ltb, ltb-true, cond-true}
use Rattle.map_geo.specs.declared.sides.Side.{Side}
use Rattle.map_level.specs.Level.{Level}
use Rattle.map_tree.specs.Paths.{Place, node, ssector}
use Rattle.map_tree.specs.Child.{node_count, ssector_count, has, child, root}
use Rattle.map_tree.specs.Slots.{slot, slot_count, child_slot, root_slot}
use Rattle.map_tree.proofs.SoundLemmas.{child_there, root_there, zero_or_suc, root_node}
use Rattle.map_tree.proofs.ReachLemmas.{none_or_some}

pub slot_within : (level : Level) (p : Place) → IsTrue (has level p)
    → slot level p < slot_count level
slot_within level (node n) there = let h = ltb-true n (node_count level) there in omega arith
slot_within level (ssector t) there = let h = ltb-true t (ssector_count level) there in omega arith

apart : (n m t : ℕ) → n < m → n ≡ m + t → ⊥
apart n m t h e = omega arith

pub slot_once : (level : Level) (p q : Place) → IsTrue (has level p) → IsTrue (has level q)
    → slot level p ≡ slot level q → p ≡ q
slot_once level (node n) (node m) a b e = ap node e
slot_once level (node n) (ssector u) a b e =
    absurd (apart n (node_count level) u (ltb-true n (node_count level) a) e)
slot_once level (ssector t) (node m) a b e =
    absurd (apart m (node_count level) t (ltb-true m (node_count level) b) (sym e))
slot_once level (ssector t) (ssector u) a b e = ap ssector (omega (arith, e))

-- where a node has a child, and where its slot is
pub child_slot_of : (level : Level) (n : ℕ) (s : Side) (q : Place) → child level n s ≡ Some q
    → child_slot level n s ≡ Some (slot level q)
child_slot_of level n s q e = ap (λ (o : Option Place). option_map (slot level) o) e

pub child_at_slot : (level : Level) (n : ℕ) (s : Side) (k : ℕ) → child_slot level n s ≡ Some k
    → (q : Place) × (child level n s ≡ Some q) × (slot level q ≡ k)
child_at_slot level n s k e = elim (none_or_some (child level n s)) [
  | inl none ↦
      let f : None ≡ Some k = sym (ap (λ (o : Option Place). option_map (slot level) o) none) ∙ e in
      cc
  | inr some ↦
      let f : Some (slot level some.0) ≡ Some k = sym (child_slot_of level n s some.0 some.1) ∙ e in
      (some.0, some.1, cc)
]

pub child_slot_within : (level : Level) (n : ℕ) (s : Side) (k : ℕ) → child_slot level n s ≡ Some k
    → k < slot_count level
child_slot_within level n s k e =
    let r = child_at_slot level n s k e in
    rw (← r.2) (slot_within level r.0 (child_there level n s r.0 r.1))

-- the root is there where any place is
pub root_there_with : (level : Level) (p : Place) → IsTrue (has level p)
    → IsTrue (has level (root level))
root_there_with level (ssector t) there =
    root_there level (let h = ltb-true t (ssector_count level) there in omega arith)
root_there_with level (node n) there = elim (zero_or_suc (node_count level)) [
  | inl none ↦ let h = ltb-true n (node_count level) there in absurd (omega (arith, none))
  | inr more ↦
      subst (λ x. IsTrue (has level x)) (sym (root_node level more.0 more.1))
      (lt-ltb more.0 (node_count level) (omega (arith, more.1)))
]

pub root_slot_of : (level : Level) → IsTrue (has level (root level))
    → root_slot level ≡ Some (slot level (root level))
root_slot_of level there =
    ap (λ (o : Option Place). option_map (slot level) o)
    (cond-true (has level (root level)) (Some (root level)) None there)
