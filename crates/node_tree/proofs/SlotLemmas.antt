-- Facts about the slots of a tree's places.
use Rattle.std.proofs.Common.{◌≡◌, ℕ, ◌+◌, ◌<◌, inl, inr, sym, ap, ◌∙◌, Option, Some, None, IsTrue, arith}
use Rattle.std.specs.Prelude.{IfSome}
use Rattle.std.specs.Option.{option_map}
use Rattle.std.proofs.lemmas.Bool.{ltb-true, cond-true}
use Rattle.map_geo.specs.declared.sides.Side.{Side}
use Rattle.node_tree.specs.Shape.{Shape}
use Rattle.map_tree.specs.Paths.{Place, node, ssector}
use Rattle.node_tree.specs.Shape.{node_count, ssector_count, has, child, root}
use Rattle.node_tree.specs.Slots.{slot, slot_count, child_slot, root_slot}
use Rattle.node_tree.proofs.SoundLemmas.{child_there, root_there}
use Rattle.map_tree.proofs.ReachLemmas.{none_or_some}

pub slot_within : (shape : Shape) (p : Place) → IsTrue (has shape p)
    → slot shape p < slot_count shape
slot_within shape (node n) there = let h = ltb-true n (node_count shape) there in omega arith
slot_within shape (ssector t) there = let h = ltb-true t (ssector_count shape) there in omega arith

apart : (n m t : ℕ) → n < m → n ≡ m + t → ⊥
apart n m t h e = omega arith

pub slot_once : (shape : Shape) (p q : Place) → IsTrue (has shape p) → IsTrue (has shape q)
    → slot shape p ≡ slot shape q → p ≡ q
slot_once shape (node n) (node m) a b e = ap node e
slot_once shape (node n) (ssector u) a b e =
    absurd (apart n (node_count shape) u (ltb-true n (node_count shape) a) e)
slot_once shape (ssector t) (node m) a b e =
    absurd (apart m (node_count shape) t (ltb-true m (node_count shape) b) (sym e))
slot_once shape (ssector t) (ssector u) a b e = ap ssector (omega (arith, e))

-- where a node has a child, and where its slot is
pub child_slot_of : (shape : Shape) (n : ℕ) (s : Side) (q : Place) → child shape n s ≡ Some q
    → child_slot shape n s ≡ Some (slot shape q)
child_slot_of shape n s q e = ap (λ (o : Option Place). option_map (slot shape) o) e

pub child_at_slot : (shape : Shape) (n : ℕ) (s : Side) (k : ℕ) → child_slot shape n s ≡ Some k
    → (q : Place) × (child shape n s ≡ Some q) × (slot shape q ≡ k)
child_at_slot shape n s k e = elim (none_or_some (child shape n s)) [
  | inl none ↦
      let f : None ≡ Some k = sym (ap (λ (o : Option Place). option_map (slot shape) o) none) ∙ e in
      cc
  | inr some ↦
      let f : Some (slot shape some.0) ≡ Some k = sym (child_slot_of shape n s some.0 some.1) ∙ e in
      (some.0, some.1, cc)
]

pub child_slot_within : (shape : Shape) (n : ℕ) (s : Side) (k : ℕ) → child_slot shape n s ≡ Some k
    → k < slot_count shape
child_slot_within shape n s k e =
    let r = child_at_slot shape n s k e in
    rw (← r.2) (slot_within shape r.0 (child_there shape n s r.0 r.1))

pub child_slot_in : (shape : Shape) (n : ℕ) (s : Side) (o : Option ℕ) → o ≡ child_slot shape n s
    → IfSome o (λ k. k < slot_count shape)
child_slot_in shape n s None e = tt
child_slot_in shape n s (Some k) e = child_slot_within shape n s k (sym e)

-- the root is there where any place is
pub root_there_with : (shape : Shape) (p : Place) → IsTrue (has shape p)
    → IsTrue (has shape (root shape))
root_there_with shape (ssector t) there =
    root_there shape (λ none. let h = ltb-true t (ssector_count shape) there in omega (arith, h))
root_there_with shape (node n) there =
    root_there shape (λ none. let h = ltb-true n (node_count shape) there in absurd (omega (arith, none, h)))

pub root_slot_of : (shape : Shape) → IsTrue (has shape (root shape))
    → root_slot shape ≡ Some (slot shape (root shape))
root_slot_of shape there =
    ap (λ (o : Option Place). option_map (slot shape) o)
    (cond-true (has shape (root shape)) (Some (root shape)) None there)
