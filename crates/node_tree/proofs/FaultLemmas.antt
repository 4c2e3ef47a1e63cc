-- A tree is sound exactly where no fault holds.
use Rattle.std.proofs.Common.{◌≡◌, ◌≢◌, ℕ, zero, suc, ◌<◌, ◌≤◌, ◌⊎◌, inl, inr, refl, sym, ap, ◌∙◌, subst, Option, Some, None, IsTrue, ℤ, pos, negsuc, arith}
use Rattle.std.specs.Prelude.{IsSome, IsSomeAnd}
use Rattle.std.proofs.lemmas.Bool.{lt-ltb, ltb-true, cases_lt, cases_eq, false≢true}
use Rattle.std.proofs.lemmas.Int.{ints, by_lt_z}
use Rattle.map_geo.specs.Partition.{Partition}
use Rattle.map_geo.specs.declared.sides.Side.{Side}
use Rattle.map_geo.specs.declared.sides.Side.TheVariants.{Front, Back}
use Rattle.map_geo.specs.Point.{IsInRange}
use Rattle.node_tree.specs.Shape.{Shape}
use Rattle.map_level.specs.declared.finding.Code.{Code}
use Rattle.map_level.specs.declared.finding.Code.TheVariants.{F11, F12, F13, F14, F15, F16, N7}
use Rattle.map_level.specs.Findings.{is_fault}
use Rattle.map_tree.specs.Paths.{Place, node, ssector, LeadsIn}
use Rattle.node_tree.specs.Shape.{node_count, ssector_count, has, child, root, IsReached}
use Rattle.node_tree.specs.TreeFaults.{TreeHolds, IsNamedTwice}
use Rattle.node_tree.specs.Sound.{IsNamedOnce, IsTree, IsSound, IsFaultless}
use Rattle.map_tree.proofs.TreeLemmas.{IsOnce, depth_short}
use Rattle.node_tree.proofs.SoundLemmas.{parent_in, root_node, root_alone, zero_or_suc, once_from_tree, tree_from_sound}
use Rattle.node_tree.proofs.LeafLemmas.{some_ssector}
use Rattle.node_tree.proofs.PlaceLemmas.{node_there}
use Rattle.map_tree.proofs.ReachLemmas.{decide_side, last_step, leads_unless_not}

-- of a sound tree nothing of this holds

origin_in_or_out : (o : Option Partition) → IsSomeAnd o (λ line. IsInRange line.x × IsInRange line.y)
    → IsSomeAnd o (λ line. ¬ (IsInRange line.x × IsInRange line.y)) → ⊥
origin_in_or_out None h k = elim h [ ]
origin_in_or_out (Some line) h k = k h

pub no_none : {A : Type 0} (o : Option A) → IsSome o → o ≡ None → ⊥
no_none None h e = cc
no_none (Some x) h e = cc

not_twice : (shape : Shape) (p : Place) → IsTree shape → IsNamedTwice shape p → ⊥
not_twice shape p tree h =
    let same = (once_from_tree shape tree).once h.n h.m h.s h.u p h.names h.names_too in
    h.apart same.0 same.1

no_tree_fault : (shape : Shape) → IsTree shape → (code : Code) (i : ℕ) → IsTrue (is_fault code)
    → TreeHolds shape code i → ⊥
no_tree_fault shape tree F11 i below (within, inl none) =
    no_none (child shape i Front) (tree.words i Front within) none
no_tree_fault shape tree F11 i below (within, inr none) =
    no_none (child shape i Back) (tree.words i Back within) none
no_tree_fault shape tree F12 i below h =
    origin_in_or_out (shape.partition i) (tree.origins i (node_there shape i (inl (inr (inl h))))) h
no_tree_fault shape tree F13 i below (inl twice) = not_twice shape (node i) tree twice
no_tree_fault shape tree F13 i below (inr (is_root, named)) =
    tree.root_unnamed named.0 named.1 (named.2 ∙ ap Some (sym is_root))
no_tree_fault shape tree F14 i below h =
    h.1 (tree.reached (node i) (lt-ltb i (node_count shape) h.0))
no_tree_fault shape tree F15 i below h = not_twice shape (ssector i) tree h
no_tree_fault shape tree F16 i below h =
    h.1 (tree.reached (ssector i) (lt-ltb i (ssector_count shape) h.0))
no_tree_fault shape tree N7 i below h = absurd (false≢true below)
no_tree_fault shape tree _ i below h = h

-- a way from the root ends at an ssector where there are nodes
pub faultless_from_sound : (shape : Shape) → IsSound shape → IsFaultless shape
faultless_from_sound shape sound = record {
  none = no_tree_fault shape (tree_from_sound shape sound);
  some = some_ssector shape sound;
}

-- a tree without faults is sound
module _ (shape : Shape) (faultless : IsFaultless shape) where
  no_two : (p : Place) → IsNamedTwice shape p → ⊥
  no_two (node n) twice = faultless.none F13 n refl ((inl twice))
  no_two (ssector t) twice = faultless.none F15 t refl (twice)

  same_turn : (n m : ℕ) (s u : Side) (p : Place) → child shape n s ≡ Some p
      → child shape m u ≡ Some p → (n ≡ m) × (s ≡ u)
  same_turn n m s u p e f = elim (cases_eq n m) [
    | inr other ↦
        absurd (no_two p (record {
          n = n;
          s = s;
          names = e;
          m = m;
          u = u;
          names_too = f;
          apart = λ same sides. other same;
        }))
    | inl same ↦ elim (decide_side s u) [
      | inl sides ↦ (same, sides)
      | inr others ↦
          absurd (no_two p (record {
            n = n;
            s = s;
            names = e;
            m = m;
            u = u;
            names_too = f;
            apart = λ again sides. others sides;
          }))
    ]
  ]

  root_not_named : (n : ℕ) (s : Side) → child shape n s ≡ Some (root shape) → ⊥
  root_not_named n s e = elim (zero_or_suc (node_count shape)) [
    | inl none ↦ let h = parent_in shape n s (root shape) e in omega (arith, none, h)
    | inr some ↦
        let is = root_node shape some.0 some.1 in
        faultless.none F13 some.0 refl ((inr (is, (n, s, e ∙ ap Some is))))
  ]

  once : IsOnce (child shape) (node_count shape) (root shape)
  once = record { once = same_turn; not_root = root_not_named; parent_in = parent_in shape }

  all_reached : (p : Place) → IsTrue (has shape p) → IsReached shape p
  all_reached (node n) there =
      leads_unless_not (child shape) (node_count shape) (root shape) (node n)
      (λ k h. depth_short (child shape) (node_count shape) (root shape) once k (node n) h)
      (λ unreached. faultless.none F14 n refl ((ltb-true n (node_count shape) there, unreached)))
  all_reached (ssector t) there =
      leads_unless_not (child shape) (node_count shape) (root shape) (ssector t)
      (λ k h. depth_short (child shape) (node_count shape) (root shape) once k (ssector t) h)
      (λ unreached. faultless.none F16 t refl ((ltb-true t (ssector_count shape) there, unreached)))

  all_named : (p : Place) → IsTrue (has shape p) → p ≢ root shape → IsNamedOnce shape p
  all_named p there other =
      let up = all_reached p there in
      elim (last_step (child shape) up.0 (root shape) p up.1) [
        | inl is_root ↦ absurd (other is_root)
        | inr last ↦
            record {
              parent = last.0;
              side = last.1;
              names = last.2;
              only = λ n s e. same_turn n last.0 s last.1 p e last.2;
            }
      ]

  some_word : (n : ℕ) (s : Side) → n < node_count shape → (o : Option Place) → child shape n s ≡ o
      → IsSome o
  some_word n s within (Some p) e = refl
  some_word n Front within None e = absurd (faultless.none F11 n refl ((within, inl e)))
  some_word n Back within None e = absurd (faultless.none F11 n refl ((within, inr e)))

  -- a number is in range or not
  in_range : (z : ℤ) → IsInRange z ⊎ (IsInRange z → ⊥)
  in_range z =
      by_lt_z z (negsuc 16383) (λ less. inr (λ h. let least = h.least in omega (arith, ints)))
      (λ least. by_lt_z (pos 16383) z (λ more. inr (λ h. let greatest = h.greatest in
      omega (arith, ints))) (λ greatest. inl (record {
        least = least;
        greatest = greatest;
      })))

  origin_of : (o : Option Partition) → IsSome o
      → (IsSomeAnd o (λ line. ¬ (IsInRange line.x × IsInRange line.y)) → ⊥)
      → IsSomeAnd o (λ line. IsInRange line.x × IsInRange line.y)
  origin_of None h out = cc
  origin_of (Some line) h out = elim (in_range line.x) [
    | inr outside ↦ absurd (out (λ both. outside both.0))
    | inl x_in ↦ elim (in_range line.y) [
      | inr outside ↦ absurd (out (λ both. outside both.1))
      | inl y_in ↦ (x_in, y_in)
    ]
  ]

  origin_inside : (n : ℕ) → n < node_count shape
      → IsSomeAnd (shape.partition n) (λ line. IsInRange line.x × IsInRange line.y)
  origin_inside n within =
      origin_of (shape.partition n) (shape.lined n within) (λ h. faultless.none F12 n refl h)

  is_tree : IsTree shape
  is_tree = record {
    words = λ n s within. some_word n s within (child shape n s) refl;
    origins = origin_inside;
    named = all_named;
    root_unnamed = root_not_named;
    reached = all_reached;
  }

  second_apart : (k : ℕ) → LeadsIn (child shape) k (ssector 0) (ssector 1) → ⊥
  second_apart zero h = cc
  second_apart (suc k) h = h

  not_reached : node_count shape ≡ 0 → (k : ℕ) → LeadsIn (child shape) k (root shape) (ssector 1)
      → ⊥
  not_reached none k h =
      second_apart k (subst (λ x. LeadsIn (child shape) k x (ssector 1)) (root_alone shape none) h)

  one_ssector : node_count shape ≡ 0 → ssector_count shape ≤ 1
  one_ssector none = elim (cases_lt 1 (ssector_count shape)) [
    | inr few ↦ few
    | inl more ↦ absurd (faultless.none F16 1 refl ((more, λ h. not_reached none h.0 h.1)))
  ]

  pub sound_from_faultless : IsSound shape
  sound_from_faultless = record {
    tree = λ some. is_tree;
    alone = λ none. let h = one_ssector none in let k = faultless.some in omega (arith, h, k);
  }
