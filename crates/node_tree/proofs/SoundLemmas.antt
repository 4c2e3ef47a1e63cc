-- What the definitions over a tree give: where a child is, and that a sound tree has each place once.
use Rattle.std.proofs.Common.{◌≡◌, ℕ, zero, suc, ◌<◌, ◌⊎◌, inl, inr, refl, sym, ap, ◌∙◌, subst, Some, IsTrue, arith}
use Rattle.std.proofs.lemmas.Bool.{lt-ltb, ltb-true}
use Rattle.map_geo.specs.declared.sides.Side.{Side}
use Rattle.map_tree.specs.Paths.{Place, node, ssector}
use Rattle.map_tree.proofs.TreeLemmas.{IsOnce}
use Rattle.map_tree.proofs.ReachLemmas.{last_step}
use Rattle.node_tree.specs.Shape.{Shape, node_count, ssector_count, has, child, root, IsReached}
use Rattle.map_tree.specs.Child.{root_of}
use Rattle.node_tree.specs.Sound.{IsTree, IsSound}

pub parent_in : (shape : Shape) (n : ℕ) (s : Side) (p : Place) → child shape n s ≡ Some p
    → n < node_count shape
parent_in shape n s p e = shape.parent_in n s p e

pub child_there : (shape : Shape) (n : ℕ) (s : Side) (p : Place) → child shape n s ≡ Some p
    → IsTrue (has shape p)
child_there shape n s p e = shape.there n s p e

pub root_node : (shape : Shape) (n : ℕ) → node_count shape ≡ suc n → root shape ≡ node n
root_node shape n e = ap root_of e

pub root_alone : (shape : Shape) → node_count shape ≡ 0 → root shape ≡ ssector 0
root_alone shape e = ap root_of e

-- a number is 0 or has one before it
pub zero_or_suc : (n : ℕ) → (n ≡ 0) ⊎ ((m : ℕ) × (n ≡ suc m))
zero_or_suc zero = inl refl
zero_or_suc (suc n) = inr (n, refl)

-- a tree without nodes and with one ssector
alone_is_root : (shape : Shape) (p : Place) → node_count shape ≡ 0 → ssector_count shape ≡ 1
    → IsTrue (has shape p) → p ≡ root shape
alone_is_root shape (node n) none one there =
    let h = ltb-true n (node_count shape) there in absurd (omega (arith, none, h))
alone_is_root shape (ssector t) none one there =
    let h = ltb-true t (ssector_count shape) there in
    let first : t ≡ 0 = omega (arith, one, h) in
    ap ssector first ∙ sym (root_alone shape none)

tree_alone : (shape : Shape) → node_count shape ≡ 0 → ssector_count shape ≡ 1 → IsTree shape
tree_alone shape none one = record {
  words = λ n s h. absurd (omega (arith, none, h));
  origins = λ n h. absurd (omega (arith, none, h));
  named = λ p there other. absurd (other (alone_is_root shape p none one there));
  root_unnamed = λ n s e. let h = parent_in shape n s (root shape) e in omega (arith, none, h);
  reached = λ p there. (0, sym (alone_is_root shape p none one there));
}

pub tree_from_sound : (shape : Shape) → IsSound shape → IsTree shape
tree_from_sound shape sound = elim (zero_or_suc (node_count shape)) [
  | inl none ↦ tree_alone shape none (sound.alone none)
  | inr some ↦ sound.tree (omega (arith, some.1))
]

-- the root is there where a node or an ssector is
pub root_there : (shape : Shape) → (node_count shape ≡ 0 → 0 < ssector_count shape)
    → IsTrue (has shape (root shape))
root_there shape some = elim (zero_or_suc (node_count shape)) [
  | inl none ↦
      subst (λ x. IsTrue (has shape x)) (sym (root_alone shape none))
      (lt-ltb 0 (ssector_count shape) (some none))
  | inr more ↦
      subst (λ x. IsTrue (has shape x)) (sym (root_node shape more.0 more.1))
      (lt-ltb more.0 (node_count shape) (omega (arith, more.1)))
]

pub sound_root_there : (shape : Shape) → IsSound shape → IsTrue (has shape (root shape))
sound_root_there shape sound =
    root_there shape (λ none. let one = sound.alone none in omega (arith, one))

pub once_from_tree : (shape : Shape) → IsTree shape
    → IsOnce (child shape) (node_count shape) (root shape)
once_from_tree shape tree = record {
  once = λ n m s u p e f.
      let named =
      tree.named p (child_there shape n s p e) (λ r. tree.root_unnamed n s (e ∙ ap Some r)) in
      let one = named.only n s e in
      let other = named.only m u f in
      (one.0 ∙ sym other.0, one.1 ∙ sym other.1);
  not_root = λ n s e. tree.root_unnamed n s e;
  parent_in = parent_in shape;
}

-- what is reached is there
pub reached_there : (shape : Shape) (p : Place) → IsSound shape → IsReached shape p
    → IsTrue (has shape p)
reached_there shape p sound up = elim (last_step (child shape) up.0 (root shape) p up.1) [
  | inl is_root ↦ subst (λ x. IsTrue (has shape x)) (sym is_root) (sound_root_there shape sound)
  | inr last ↦ child_there shape last.0 last.1 p last.2
]
