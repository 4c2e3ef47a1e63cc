-- Whether a place leads to another can be decided where the steps are bounded.
use Rattle.std.proofs.Common.{◌≡◌, ℕ, zero, suc, ◌<◌, ◌≤◌, ◌⊎◌, inl, inr, refl, sym, ap, ◌∙◌, subst, List, [], ◌∷◌, Option, Some, None, IsTrue, arith}
use Rattle.std.proofs.lemmas.Bool.{cases_eq}
use Rattle.map_geo.specs.declared.sides.Side.{Side}
use Rattle.map_geo.specs.declared.sides.Side.TheVariants.{Front, Back}
use Rattle.map_tree.specs.Paths.{Place, node, ssector, LeadsIn, Leads}
use Rattle.map_level.specs.Level.{Level}
use Rattle.map_tree.specs.Child.{ssector_count, has, child, root, IsReached}
use Rattle.map_tree.proofs.SoundLemmas.{root_there, child_there}
use Rattle.map_tree.proofs.ChainLemmas.{Turn, go, Chain, go_on}

pub decide_side : (s u : Side) → (s ≡ u) ⊎ (s ≡ u → ⊥)
decide_side Front Front = inl refl
decide_side Front Back = inr (λ e. cc)
decide_side Back Front = inr (λ e. cc)
decide_side Back Back = inl refl

pub decide_place : (p q : Place) → (p ≡ q) ⊎ (p ≡ q → ⊥)
decide_place (node n) (node m) =
    elim (cases_eq n m) [
      | inl e ↦ inl (ap node e)
      | inr other ↦ inr (λ e. let same : n
          ≡ m = cc in other same)
    ]
decide_place (node n) (ssector u) = inr (λ e. cc)
decide_place (ssector t) (node m) = inr (λ e. cc)
decide_place (ssector t) (ssector u) =
    elim (cases_eq t u) [
      | inl e ↦ inl (ap ssector e)
      | inr other ↦ inr (λ e. let same : t
          ≡ u = cc in other same)
    ]

pub none_or_some : {A : Type 0} (o : Option A) → (o ≡ None) ⊎ ((x : A) × (o ≡ Some x))
none_or_some None = inl refl
none_or_some (Some x) = inr (x, refl)

last_turn : (child : ℕ → Side → Option Place) (from to : Place) (ts : List Turn)
    → Chain child from ts to → (to ≡ from) ⊎ ((n : ℕ) × (s : Side) × (child n s ≡ Some to))
last_turn child from to [] a = inl a
last_turn child from to (go n s ∷ ts) a = inr (n, s, a.0)

-- a way has a last step
pub last_step : (child : ℕ → Side → Option Place) (k : ℕ) (from to : Place)
    → LeadsIn child k from to → (to ≡ from) ⊎ ((n : ℕ) × (s : Side) × (child n s ≡ Some to))
last_step child k from to h =
    let r = go_on child k from from to [] refl h in last_turn child from to r.turns r.is

module _ (child : ℕ → Side → Option Place) where
  through : (k n : ℕ) (s : Side) (to : Place)
      → ((next : Place) → LeadsIn child k next to ⊎ (LeadsIn child k next to → ⊥))
      → ((next : Place) × (child n s ≡ Some next) × LeadsIn child k next to)
      ⊎ ((next : Place) → child n s ≡ Some next → LeadsIn child k next to → ⊥)
  through k n s to decide = elim (none_or_some (child n s)) [
    | inl none ↦ inr (λ next e h. let f : None ≡ Some next = sym none ∙ e in cc)
    | inr some ↦ elim (decide some.0) [
      | inl h ↦ inl (some.0, some.1, h)
      | inr not_so ↦ inr (λ next e h.
          let f : Some some.0 ≡ Some next = sym some.1 ∙ e in
          let same : next ≡ some.0 = cc in
          not_so (subst (λ x. LeadsIn child k x to) same h))
    ]
  ]

  neither : (k n : ℕ) (to : Place)
      → ((next : Place) → child n Front ≡ Some next → LeadsIn child k next to → ⊥)
      → ((next : Place) → child n Back ≡ Some next → LeadsIn child k next to → ⊥)
      → (s : Side) (next : Place) → child n s ≡ Some next → LeadsIn child k next to → ⊥
  neither k n to a b Front next e h = a next e h
  neither k n to a b Back next e h = b next e h

  pub leads_in_or_not : (k : ℕ) (from to : Place)
      → LeadsIn child k from to ⊎ (LeadsIn child k from to → ⊥)
  leads_in_or_not zero from to = decide_place from to
  leads_in_or_not (suc k) (ssector t) to = inr (λ h. h)
  leads_in_or_not (suc k) (node n) to =
      elim (through k n Front to (λ next. leads_in_or_not k next to)) [
        | inl a ↦ inl (Front, a.0, a.1, a.2)
        | inr a ↦ elim (through k n Back to (λ next. leads_in_or_not k next to)) [
          | inl b ↦ inl (Back, b.0, b.1, b.2)
          | inr b ↦ inr (λ h. neither k n to a b h.0 h.1 h.2 h.3)
        ]
      ]

  -- within so many steps
  pub leads_or_not : (most : ℕ) (from to : Place)
      → Leads child from to ⊎ ((k : ℕ) → k ≤ most → LeadsIn child k from to → ⊥)
  leads_or_not zero from to = elim (leads_in_or_not 0 from to) [
    | inl h ↦ inl (0, h)
    | inr not_so ↦ inr (λ k le h. let none : k ≡ 0 = omega arith in not_so (rw none at h))
  ]
  leads_or_not (suc most) from to = elim (leads_or_not most from to) [
    | inl h ↦ inl h
    | inr before ↦ elim (leads_in_or_not (suc most) from to) [
      | inl h ↦ inl (suc most, h)
      | inr here ↦ inr (λ k le h. elim (cases_eq k (suc most)) [
        | inl last ↦ here (rw last at h)
        | inr other ↦ before k (omega (arith, other)) h
      ])
    ]
  ]

  -- where no way has more steps, what isn't unreached is reached
  pub leads_unless_not : (most : ℕ) (from to : Place)
      → ((k : ℕ) → LeadsIn child k from to → k ≤ most) → ((Leads child from to → ⊥) → ⊥)
      → Leads child from to
  leads_unless_not most from to bounded twice = elim (leads_or_not most from to) [
    | inl h ↦ h
    | inr none ↦ absurd (twice (λ h. none h.0 (bounded h.0 h.1) h.1))
  ]

-- what is reached is there
pub reached_there : (level : Level) (p : Place) → 0 < ssector_count level → IsReached level p
    → IsTrue (has level p)
reached_there level p some up = elim (last_step (child level) up.0 (root level) p up.1) [
  | inl is_root ↦ subst (λ x. IsTrue (has level x)) (sym is_root) (root_there level some)
  | inr last ↦ child_there level last.0 last.1 p last.2
]
