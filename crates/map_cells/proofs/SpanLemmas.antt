-- Spans: numbers side by side that all have a property, as far as it goes.
use Rattle.std.proofs.Common.{◌≡◌, ℕ, zero, suc, ◌+◌, ◌-◌, ◌<◌, ◌≤◌, ◌⊎◌, inl, inr, sym, subst, arith}
use Rattle.std.proofs.lemmas.Bool.{cases_lt}

-- n numbers from a on have the property, and those around them don't
pub record IsSpan (P : ℕ → Type 0) (a n : ℕ) : Type 0 where
  pub some : 0 < n
  pub all : (c : ℕ) → a ≤ c → c < a + n → P c
  pub left : 0 < a → ¬ P (a - 1)
  pub right : ¬ P (a + n)

module _ (P : ℕ → Type 0) where
  from-below : (a n b m x : ℕ) → IsSpan P a n → IsSpan P b m → x < a + n → b ≤ x → b ≤ a
  from-below a n b m x p q within from = elim (cases_lt a b) [
    | inl less ↦ absurd (q.left (omega (arith, less)) (p.all (b - 1) (omega (arith, less)) (omega (arith, less, within, from))))
    | inr past ↦ past
  ]

  end-below : (a n b m x : ℕ) → IsSpan P a n → IsSpan P b m → x < a + n → b ≤ x → b + m ≤ a + n
  end-below a n b m x p q within from = elim (cases_lt (a + n) (b + m)) [
    | inl less ↦ absurd (p.right (q.all (a + n) (omega (arith, within, from)) less))
    | inr past ↦ past
  ]

  -- two spans that share a number are one
  pub spans-same : (a n b m x : ℕ) → IsSpan P a n → IsSpan P b m → a ≤ x → x < a + n → b ≤ x → x < b + m
      → (a ≡ b) × (n ≡ m)
  spans-same a n b m x p q a_from a_within b_from b_within =
      let low = from-below a n b m x p q a_within b_from in
      let high = from-below b m a n x q p b_within a_from in
      let short = end-below a n b m x p q a_within b_from in
      let long = end-below b m a n x q p b_within a_from in
      (omega (arith, low, high), omega (arith, low, high, short, long))

  -- the property holds from a on up to x, and not before a
  record Begins (x a : ℕ) : Type 0 where
    pub from : a ≤ x
    pub all : (c : ℕ) → a ≤ c → c ≤ x → P c
    pub left : 0 < a → ¬ P (a - 1)

  -- the property holds from x on before e, and not at e
  record Ends (x e : ℕ) : Type 0 where
    pub past : x < e
    pub all : (c : ℕ) → x ≤ c → c < e → P c
    pub right : ¬ P e

  module _ (decide : (c : ℕ) → P c ⊎ (¬ P c)) where
    begun : (x : ℕ) → P x → (a : ℕ) × Begins x a
    begun zero here = (
      0,
      record {
        from = omega arith;
        all = λ c from to. subst P (omega (arith, from, to)) here;
        left = λ some. absurd (omega (arith, some));
      },
    )
    begun (suc x) here = elim (decide x) [
      | inl before ↦
          let (a, begins) = begun x before in (
            a,
            record {
              from = omega (arith, begins.from);
              all = λ c from to. elim (cases_lt c (suc x)) [
                | inl less ↦ begins.all c from (omega (arith, less))
                | inr past ↦ subst P (omega (arith, past, to)) here
              ];
              left = begins.left;
            },
          )
      | inr none ↦ (
        suc x,
        record {
          from = omega arith;
          all = λ c from to. subst P (omega (arith, from, to)) here;
          left = λ _. let back : x ≡ suc x - 1 = omega arith in subst (λ c. ¬ P c) back none;
        },
      )
    ]

    ended : (most : ℕ) → ((c : ℕ) → most ≤ c → ¬ P c) → (fuel x : ℕ) → most ≤ x + fuel → P x → (e : ℕ) × Ends x e
    ended most none zero x far here = absurd (none x (omega (arith, far)) here)
    ended most none (suc fuel) x far here = elim (decide (suc x)) [
      | inl next ↦
          let (e, ends) = ended most none fuel (suc x) (omega (arith, far)) next in (
            e,
            record {
              past = omega (arith, ends.past);
              all = λ c from to. elim (cases_lt x c) [
                | inl less ↦ ends.all c (omega (arith, less)) to
                | inr past ↦ subst P (omega (arith, from, past)) here
              ];
              right = ends.right;
            },
          )
      | inr stops ↦ (
        suc x,
        record {
          past = omega arith;
          all = λ c from to. subst P (omega (arith, from, to)) here;
          right = stops;
        },
      )
    ]

    -- where the property holds at x and at no number from some on, a span has x
    pub span-of : (most : ℕ) → ((c : ℕ) → most ≤ c → ¬ P c) → (x : ℕ) → P x
        → (a : ℕ) × (n : ℕ) × IsSpan P a n × (a ≤ x) × (x < a + n)
    span-of most none x here =
        let (a, begins) = begun x here in
        let (e, ends) = ended most none most x (omega arith) here in
        let to : a + (e - a) ≡ e = omega (arith, begins.from, ends.past) in (
          a,
          e - a,
          record {
            some = omega (arith, begins.from, ends.past);
            all = λ c from within. elim (cases_lt c x) [
              | inl less ↦ begins.all c from (omega (arith, less))
              | inr past ↦ ends.all c past (omega (arith, within, to))
            ];
            left = begins.left;
            right = subst (λ r. ¬ P r) (sym to) ends.right;
          },
          begins.from,
          omega (arith, begins.from, ends.past),
        )

    all-or-not : (a n : ℕ) → ((c : ℕ) → a ≤ c → c < a + n → P c) ⊎ (¬ ((c : ℕ) → a ≤ c → c < a + n → P c))
    all-or-not a zero = inl (λ c from within. absurd (omega (arith, from, within)))
    all-or-not a (suc n) = elim (all-or-not a n) [
      | inl before ↦ elim (decide (a + n)) [
        | inl last ↦
            inl (λ c from within. elim (cases_lt c (a + n)) [
              | inl less ↦ before c from less
              | inr past ↦ subst P (omega (arith, past, within)) last
            ])
        | inr fails ↦ inr (λ every. fails (every (a + n) (omega arith) (omega arith)))
      ]
      | inr fails ↦ inr (λ every. fails (λ c from within. every c from (omega (arith, within))))
    ]

    left-or-not : (a : ℕ) → (0 < a → ¬ P (a - 1)) ⊎ (¬ (0 < a → ¬ P (a - 1)))
    left-or-not zero = inl (λ some. absurd (omega (arith, some)))
    left-or-not (suc a) = elim (decide (suc a - 1)) [
      | inl is ↦ inr (λ none. none (omega arith) is)
      | inr fails ↦ inl (λ _ before. fails before)
    ]

    -- whether a span is one can be told
    pub span-or-not : (a n : ℕ) → IsSpan P a n ⊎ (¬ IsSpan P a n)
    span-or-not a zero = inr (λ p. absurd (omega (arith, p.some)))
    span-or-not a (suc n) = elim (all-or-not a (suc n)) [
      | inl all ↦ elim (left-or-not a) [
        | inl left ↦ elim (decide (a + suc n)) [
          | inl goes_on ↦ inr (λ p. p.right goes_on)
          | inr right ↦ inl (record { some = omega arith; all = all; left = left; right = right })
        ]
        | inr fails ↦ inr (λ p. fails p.left)
      ]
      | inr fails ↦ inr (λ p. fails p.all)
    ]
