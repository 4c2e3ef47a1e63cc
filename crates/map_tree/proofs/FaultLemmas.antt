-- A level is sound exactly where no fault holds.
use Rattle.std.proofs.Common.{◌≡◌, ◌≢◌, ℕ, zero, suc, ◌<◌, ◌≤◌, ◌⊎◌, inl, inr, refl, sym, ap, ◌∙◌, subst, List, length, Option, Some, None, IsTrue, ℤ, pos, negsuc, arith}
use Rattle.std.specs.Prelude.{IsSome, IsSomeAnd}
use Rattle.std.specs.List.{slice_get}
use Rattle.std.proofs.lemmas.Bool.{lt-ltb, ltb-true, cases_lt, cases_eq, false≢true}
use Rattle.std.proofs.lemmas.Int.{ints, by_lt_z}
use Rattle.std.proofs.lemmas.List.{length-map}
use Rattle.map_level.specs.Reading.{ssector_under}
use Rattle.std.proofs.lemmas.Option.{slice_get_cases}
use Rattle.le_rec.specs.declared.records.Node.{Node}
use Rattle.map_geo.specs.declared.sides.Side.{Side}
use Rattle.map_geo.specs.declared.sides.Side.TheVariants.{Front, Back}
use Rattle.map_geo.specs.Point.{IsInRange}
use Rattle.map_level.specs.Level.{Level}
use Rattle.map_level.specs.declared.finding.Code.{Code}
use Rattle.map_level.specs.declared.finding.Code.TheVariants.{F11, F12, F13, F14, F15, F16, F17, N7}
use Rattle.map_level.specs.Findings.{is_fault}
use Rattle.map_level.proofs.BoundLemmas.{some_within}
use Rattle.map_tree.specs.Paths.{Place, node, ssector, LeadsIn}
use Rattle.map_tree.specs.Child.{node_count, ssector_count, has, child, root, IsReached}
use Rattle.map_tree.specs.TreeFaults.{TreeHolds, IsNamedTwice}
use Rattle.map_tree.specs.Sound.{IsNamedOnce, IsTree, IsSound, IsFaultless}
use Rattle.map_tree.proofs.TreeLemmas.{IsOnce, depth_short}
use Rattle.map_tree.proofs.SoundLemmas.{parent_in, root_node, root_alone, zero_or_suc, once_from_tree, tree_from_sound}
use Rattle.map_tree.proofs.ReachLemmas.{decide_side, last_step, leads_unless_not}

-- of a sound level nothing of this holds

origin_in_or_out : (o : Option Node) → IsSomeAnd o (λ found. IsInRange found.x × IsInRange found.y)
    → IsSomeAnd o (λ found. ¬ (IsInRange found.x × IsInRange found.y)) → ⊥
origin_in_or_out None h k = elim h [ ]
origin_in_or_out (Some found) h k = k h

no_none : {A : Type 0} (o : Option A) → IsSome o → o ≡ None → ⊥
no_none None h e = cc
no_none (Some x) h e = cc

not_twice : (level : Level) (p : Place) → IsTree level → IsNamedTwice level p → ⊥
not_twice level p tree h =
    let same = (once_from_tree level tree).once h.n h.m h.s h.u p h.names h.names_too in
    h.apart same.0 same.1

no_tree_fault : (level : Level) → IsTree level → (code : Code) (i : ℕ) → IsTrue (is_fault code)
    → TreeHolds level code i → ⊥
no_tree_fault level tree F11 i below (within, inl none) =
    no_none (child level i Front) (tree.words i Front within) none
no_tree_fault level tree F11 i below (within, inr none) =
    no_none (child level i Back) (tree.words i Back within) none
no_tree_fault level tree F12 i below h =
    origin_in_or_out (slice_get level.nodes.records i)
    (tree.origins i (some_within level.nodes.records i
    (λ found. ¬ (IsInRange found.x × IsInRange found.y)) h)) h
no_tree_fault level tree F13 i below (inl twice) = not_twice level (node i) tree twice
no_tree_fault level tree F13 i below (inr (is_root, named)) =
    tree.root_unnamed named.0 named.1 (named.2 ∙ ap Some (sym is_root))
no_tree_fault level tree F14 i below h =
    h.1 (tree.reached (node i) (lt-ltb i (node_count level) h.0))
no_tree_fault level tree F15 i below h = not_twice level (ssector i) tree h
no_tree_fault level tree F16 i below h =
    h.1 (tree.reached (ssector i) (lt-ltb i (ssector_count level) h.0))
no_tree_fault level tree N7 i below h = absurd (false≢true below)
no_tree_fault level tree _ i below h = h

pub faultless_from_sound : (level : Level) → IsSound level → IsFaultless level
faultless_from_sound level sound code i below (inl h) = sound.linked code i below h
faultless_from_sound level sound code i below (inr h) =
    no_tree_fault level (tree_from_sound level sound) code i below h

-- a level without faults is sound
module _ (level : Level) (faultless : IsFaultless level) where
  no_two : (p : Place) → IsNamedTwice level p → ⊥
  no_two (node n) twice = faultless F13 n refl (inr (inl twice))
  no_two (ssector t) twice = faultless F15 t refl (inr twice)

  same_turn : (n m : ℕ) (s u : Side) (p : Place) → child level n s ≡ Some p
      → child level m u ≡ Some p → (n ≡ m) × (s ≡ u)
  same_turn n m s u p e f = elim (cases_eq n m) [
    | inr other ↦
        absurd (no_two p (record {
          n = n;
          s = s;
          names = e;
          m = m;
          u = u;
          names_too = f;
          apart = λ same sides. other same;
        }))
    | inl same ↦ elim (decide_side s u) [
      | inl sides ↦ (same, sides)
      | inr others ↦
          absurd (no_two p (record {
            n = n;
            s = s;
            names = e;
            m = m;
            u = u;
            names_too = f;
            apart = λ again sides. others sides;
          }))
    ]
  ]

  root_not_named : (n : ℕ) (s : Side) → child level n s ≡ Some (root level) → ⊥
  root_not_named n s e = elim (zero_or_suc (node_count level)) [
    | inl none ↦ let h = parent_in level n s (root level) e in omega (arith, none, h)
    | inr some ↦
        let is = root_node level some.0 some.1 in
        faultless F13 some.0 refl (inr (inr (is, (n, s, e ∙ ap Some is))))
  ]

  once : IsOnce (child level) (node_count level) (root level)
  once = record { once = same_turn; not_root = root_not_named; parent_in = parent_in level }

  all_reached : (p : Place) → IsTrue (has level p) → IsReached level p
  all_reached (node n) there =
      leads_unless_not (child level) (node_count level) (root level) (node n)
      (λ k h. depth_short (child level) (node_count level) (root level) once k (node n) h)
      (λ unreached. faultless F14 n refl (inr (ltb-true n (node_count level) there, unreached)))
  all_reached (ssector t) there =
      leads_unless_not (child level) (node_count level) (root level) (ssector t)
      (λ k h. depth_short (child level) (node_count level) (root level) once k (ssector t) h)
      (λ unreached. faultless F16 t refl (inr (ltb-true t (ssector_count level) there, unreached)))

  all_named : (p : Place) → IsTrue (has level p) → p ≢ root level → IsNamedOnce level p
  all_named p there other =
      let up = all_reached p there in
      elim (last_step (child level) up.0 (root level) p up.1) [
        | inl is_root ↦ absurd (other is_root)
        | inr last ↦
            record {
              parent = last.0;
              side = last.1;
              names = last.2;
              only = λ n s e. same_turn n last.0 s last.1 p e last.2;
            }
      ]

  some_word : (n : ℕ) (s : Side) → n < node_count level → (o : Option Place) → child level n s ≡ o
      → IsSome o
  some_word n s within (Some p) e = refl
  some_word n Front within None e = absurd (faultless F11 n refl (inr (within, inl e)))
  some_word n Back within None e = absurd (faultless F11 n refl (inr (within, inr e)))

  -- a number is in range or not
  in_range : (z : ℤ) → IsInRange z ⊎ (IsInRange z → ⊥)
  in_range z =
      by_lt_z z (negsuc 16383) (λ less. inr (λ h. let least = h.least in omega (arith, ints)))
      (λ least. by_lt_z (pos 16383) z (λ more. inr (λ h. let greatest = h.greatest in
      omega (arith, ints))) (λ greatest. inl (record {
        least = least;
        greatest = greatest;
      })))

  origin_of : (o : Option Node) → IsSome o
      → (IsSomeAnd o (λ found. ¬ (IsInRange found.x × IsInRange found.y)) → ⊥)
      → IsSomeAnd o (λ found. IsInRange found.x × IsInRange found.y)
  origin_of None h out = cc
  origin_of (Some found) h out = elim (in_range found.x) [
    | inr outside ↦ absurd (out (λ both. outside both.0))
    | inl x_in ↦ elim (in_range found.y) [
      | inr outside ↦ absurd (out (λ both. outside both.1))
      | inl y_in ↦ (x_in, y_in)
    ]
  ]

  node_there : {X : Type 0} (xs : List X) (n : ℕ) → n < length xs → IsSome (slice_get xs n)
  node_there xs n within =
      elim (slice_get_cases xs n).1 [
        | inl there ↦ rw there.2 refl
        | inr past ↦ let h = past.0 in absurd (omega arith)
      ]

  origin_inside : (n : ℕ) → n < node_count level
      → IsSomeAnd (slice_get level.nodes.records n) (λ found. IsInRange found.x × IsInRange found.y)
  origin_inside n within =
      origin_of (slice_get level.nodes.records n) (node_there level.nodes.records n within)
      (λ h. faultless F12 n refl (inr h))

  is_tree : IsTree level
  is_tree = record {
    words = λ n s within. some_word n s within (child level n s) refl;
    origins = origin_inside;
    named = all_named;
    root_unnamed = root_not_named;
    reached = all_reached;
  }

  second_apart : (k : ℕ) → LeadsIn (child level) k (ssector 0) (ssector 1) → ⊥
  second_apart zero h = cc
  second_apart (suc k) h = h

  not_reached : node_count level ≡ 0 → (k : ℕ) → LeadsIn (child level) k (root level) (ssector 1)
      → ⊥
  not_reached none k h =
      second_apart k (subst (λ x. LeadsIn (child level) k x (ssector 1)) (root_alone level none) h)

  one_ssector : node_count level ≡ 0 → ssector_count level ≤ 1
  one_ssector none = elim (cases_lt 1 (ssector_count level)) [
    | inr few ↦ few
    | inl more ↦ absurd (faultless F16 1 refl (inr (more, λ h. not_reached none h.0 h.1)))
  ]

  at_least_one : 0 < ssector_count level
  at_least_one = elim (zero_or_suc (ssector_count level)) [
    | inl none ↦
        absurd (faultless F17 0 refl
        (inl (refl, length-map level.ssectors.records (ssector_under level.reading) ∙ none)))
    | inr some ↦ omega (arith, some.1)
  ]

  pub sound_from_faultless : IsSound level
  sound_from_faultless = record {
    linked = λ code i below h. faultless code i below (inl h);
    tree = λ some. is_tree;
    alone = λ none. let h = one_ssector none in let k = at_least_one in omega arith;
  }
