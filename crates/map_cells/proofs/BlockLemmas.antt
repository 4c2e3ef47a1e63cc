-- The block that begins at a cell.
use Rattle.std.proofs.Common.{◌≡◌, ◌↔◌, ◌∙◌, ℕ, ◌+◌, ◌-◌, ◌<◌, ◌≤◌, inl, inr, Option, Some, None, refl, sym, subst, ap, arith}
use Rattle.std.proofs.lemmas.Bool.{cases_lt}
use Rattle.map_cells.specs.declared.block.Block.{Block}
use Rattle.map_cells.specs.Blocks.{IsRun, IsBlock, BeginsAt}

some_inj : (a b : ℕ) → Some a ≡ Some b → a ≡ b
some_inj a b e = cc

module _ (cell : ℕ → ℕ → Option ℕ) where
  -- a run has one length
  pub run-same : (s i j n m : ℕ) → IsRun cell s i j n → IsRun cell s i j m → n ≡ m
  run-same s i j n m p q = elim (cases_lt n m) [
    | inl less ↦ absurd (p.right (q.all (i + n) (omega arith) (omega (arith, less))))
    | inr past ↦ elim (cases_lt m n) [
      | inl less ↦ absurd (q.right (p.all (i + m) (omega arith) (omega (arith, less))))
      | inr other ↦ omega (arith, past, other)
    ]
  ]

  -- from a column up to another all show the sector, and the cells on the left and behind don't: so the run has that length, and no other
  pub run-told : (s i j end : ℕ) → i < end → ((c : ℕ) → i ≤ c → c < end → cell c j ≡ Some s) → (cell end j ≡ Some s → ⊥)
      → (0 < i → cell (i - 1) j ≡ Some s → ⊥) → (n : ℕ) → (Some (end - i) ≡ Some n) ↔ IsRun cell s i j n
  run-told s i j end some all stops left n =
      let at : i + (end - i) ≡ end = omega (arith, some) in
      let run : IsRun cell s i j (end - i) = record {
        some = omega (arith, some);
        all = λ c from to. all c from (omega (arith, to, at));
        left = left;
        right = subst (λ c. cell c j ≡ Some s → ⊥) (sym at) stops;
      } in
      ((λ e. subst (IsRun cell s i j) (some_inj (end - i) n e) run), (λ other. ap Some (run-same s i j (end - i) n run other)))

  -- a run of n columns from i on that rows j to j + k - 1 all have, and the rows around them don't
  pub record Spans (s i j n k : ℕ) : Type 0 where
    pub some : 0 < k
    pub all : (r : ℕ) → j ≤ r → r < j + k → IsRun cell s i r n
    pub below : 0 < j → ¬ IsRun cell s i (j - 1) n
    pub above : ¬ IsRun cell s i (j + k) n

  block-spans : (s : ℕ) (b : Block) → IsBlock cell s b → Spans s b.column b.row b.width b.height
  block-spans s b p = record { some = p.some; all = p.all; below = p.below; above = p.above }

  spans-row : (s i j n k : ℕ) → Spans s i j n k → IsRun cell s i j n
  spans-row s i j n k p = p.all j (omega arith) (omega (arith, p.some))

  spans-cell : (s i j n k : ℕ) → Spans s i j n k → cell i j ≡ Some s
  spans-cell s i j n k p =
      let run = spans-row s i j n k p in
      run.all i (omega arith) (omega (arith, run.some))

  pub begins-spans : (i j : ℕ) (b : Block) (p : BeginsAt cell i j b) → Spans p.sector i j b.width b.height
  begins-spans i j b p =
      subst (λ r. Spans p.sector i r b.width b.height) p.row
      (subst (λ c. Spans p.sector c b.row b.width b.height) p.column (block-spans p.sector b p.block))

  -- where a block begins its sector is shown
  pub begins-cell : (i j : ℕ) (b : Block) (p : BeginsAt cell i j b) → cell i j ≡ Some p.sector
  begins-cell i j b p = spans-cell p.sector i j b.width b.height (begins-spans i j b p)

  -- and not on the left of it
  pub begins-left : (i j : ℕ) (b : Block) (p : BeginsAt cell i j b) → 0 < i → cell (i - 1) j ≡ Some p.sector → ⊥
  begins-left i j b p some shown = (spans-row p.sector i j b.width b.height (begins-spans i j b p)).left some shown

  pub begins-at : (i j s : ℕ) (b : Block) → BeginsAt cell i j b → cell i j ≡ Some s → Spans s i j b.width b.height
  begins-at i j s b p here =
      let same : p.sector ≡ s = some_inj p.sector s (sym (begins-cell i j b p) ∙ here) in
      subst (λ r. Spans r i j b.width b.height) same (begins-spans i j b p)

  -- no block begins where nothing is shown, where no run does, or where the row below has the run
  pub none-nothing : (i j : ℕ) → cell i j ≡ None → (b : Block) → (None ≡ Some b) ↔ BeginsAt cell i j b
  none-nothing i j none b =
      ((λ e. cc), (λ p. let both : None ≡ Some p.sector = sym none ∙ begins-cell i j b p in cc))

  pub none-run : (i j s : ℕ) → cell i j ≡ Some s → ((n : ℕ) → ¬ IsRun cell s i j n)
      → (b : Block) → (None ≡ Some b) ↔ BeginsAt cell i j b
  none-run i j s here none b =
      ((λ e. cc), (λ p. absurd (none b.width (spans-row s i j b.width b.height (begins-at i j s b p here)))))

  pub none-begun : (i j s n : ℕ) → cell i j ≡ Some s → IsRun cell s i j n → 0 < j → IsRun cell s i (j - 1) n
      → (b : Block) → (None ≡ Some b) ↔ BeginsAt cell i j b
  none-begun i j s n here run above below b = (
    (λ e. cc),
    (λ p.
        let spans = begins-at i j s b p here in
        let same = run-same s i j n b.width run (spans-row s i j b.width b.height spans) in
        absurd (spans.below above (subst (λ w. IsRun cell s i (j - 1) w) same below))),
  )

  height-same : (s i j n k e : ℕ) → Spans s i j n k → j < e → ((r : ℕ) → j ≤ r → r < e → IsRun cell s i r n)
      → ¬ IsRun cell s i e n → k ≡ e - j
  height-same s i j n k e p some all end = elim (cases_lt (j + k) e) [
    | inl less ↦ absurd (p.above (all (j + k) (omega arith) less))
    | inr past ↦ elim (cases_lt e (j + k)) [
      | inl less ↦ absurd (end (p.all e (omega (arith, some)) less))
      | inr other ↦ omega (arith, past, other, some)
    ]
  ]

  block-eq : (a b : Block) → a.column ≡ b.column → a.row ≡ b.row → a.width ≡ b.width → a.height ≡ b.height → a ≡ b
  block-eq a b x y w h = rw (x, y, w, h) refl

  -- the block that spans the run and the rows from j on that have it
  pub block-told : (s i j n e : ℕ) (b : Block) → cell i j ≡ Some s → IsRun cell s i j n
      → (0 < j → ¬ IsRun cell s i (j - 1) n) → j < e → ((r : ℕ) → j ≤ r → r < e → IsRun cell s i r n)
      → ¬ IsRun cell s i e n → b.column ≡ i → b.row ≡ j → b.width ≡ n → b.height ≡ e - j
      → (other : Block) → (Some b ≡ Some other) ↔ BeginsAt cell i j other
  block-told s i j n e b here run below some all end column row width height other =
      let at : j + (e - j) ≡ e = omega (arith, some) in
      let spans : Spans s i j n (e - j) = record {
        some = omega (arith, some);
        all = λ r from to. all r from (omega (arith, to, at));
        below = below;
        above = subst (λ r. ¬ IsRun cell s i r n) (sym at) end;
      } in
      let spans_b : Spans s b.column b.row b.width b.height =
      subst (λ c. Spans s c b.row b.width b.height) (sym column)
      (subst (λ r. Spans s i r b.width b.height) (sym row)
      (subst (λ w. Spans s i j w b.height) (sym width)
      (subst (λ h. Spans s i j n h) (sym height) spans))) in
      let begins : BeginsAt cell i j b = record {
        column = column;
        row = row;
        sector = s;
        block = record { some = spans_b.some; all = spans_b.all; below = spans_b.below; above = spans_b.above };
      } in (
        (λ same. let is : b ≡ other = cc in subst (BeginsAt cell i j) is begins),
        (λ p.
            let theirs = begins-at i j s other p here in
            let wide : n ≡ other.width = run-same s i j n other.width run (spans-row s i j other.width other.height theirs) in
            let high : other.height ≡ e - j =
            height-same s i j n other.height e (subst (λ w. Spans s i j w other.height) (sym wide) theirs) some all end in
            ap Some (block-eq b other (column ∙ sym p.column) (row ∙ sym p.row) (width ∙ wide) (height ∙ sym high))),
      )

  -- a cell has one block that begins there
  pub begins-one : (i j : ℕ) (a b : Block) → BeginsAt cell i j a → BeginsAt cell i j b → a ≡ b
  begins-one i j a b p q =
      let here = begins-cell i j b q in
      let first = begins-at i j q.sector a p here in
      let other = begins-at i j q.sector b q here in
      let wide : a.width ≡ b.width =
      run-same q.sector i j a.width b.width (spans-row q.sector i j a.width a.height first) (spans-row q.sector i j b.width b.height other) in
      let high : a.height ≡ j + b.height - j =
      height-same q.sector i j b.width a.height (j + b.height)
      (subst (λ w. Spans q.sector i j w a.height) wide first) (omega (arith, other.some)) other.all other.above in
      block-eq a b (p.column ∙ sym q.column) (p.row ∙ sym q.row) wide (omega (arith, high))

  -- the first cell of a block shows its sector
  pub block-cell : (s : ℕ) (b : Block) → IsBlock cell s b → cell b.column b.row ≡ Some s
  block-cell s b p = spans-cell s b.column b.row b.width b.height (block-spans s b p)
