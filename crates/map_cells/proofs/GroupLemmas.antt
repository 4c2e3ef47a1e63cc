-- Lists of blocks, one for each sector, cell by cell.
use Rattle.std.proofs.Common.{◌≡◌, ◌↔◌, ◌∙◌, ℕ, zero, suc, ◌+◌, ◌-◌, ◌<◌, ◌≤◌, ◌⊎◌, inl, inr, List, [], ◌∷◌, ◌++◌, length, get_or, set, map, Option, Some, None, refl, sym, subst, ap, arith}
use Rattle.std.specs.List.{Contains}
use Rattle.std.proofs.lemmas.Bool.{cases_eq, cases_lt}
use Rattle.std.proofs.lemmas.List.{get_or-set_same, get_or-set_other, length-set}
use Rattle.std.proofs.lemmas.List.Elements.{Contains-append_left, Contains-append_right, Contains-append_cases, Contains-get_or}
use Rattle.std.proofs.lemmas.List.Quantifiers.{all_pairs_push}
use Rattle.map_cells.specs.declared.block.Block.{Block}
use Rattle.map_cells.specs.Blocks.{IsBlock, BeginsAt}
use Rattle.map_cells.specs.Groups.{StandsBefore, AreGroups, IsBefore, AreSome, AreBlocksBefore, PushesBlock, AddsBlock}
use Rattle.map_cells.proofs.BlockLemmas.{begins-cell, begins-left, begins-one, block-cell}

-- a block more in one of several lists
pub pushed-at : {V : Type 0} (items : V → List Block) (lists : List V) (s : ℕ) (v w : V) (b : Block) → s < length lists
    → v ≡ get_or lists s v → items w ≡ items v ++ b ∷ [] → PushesBlock s b (map items lists) (map items (set lists s w))
pushed-at items [] s v w b h at grows = absurd (omega (arith, h))
pushed-at items (x ∷ xs) zero v w b h at grows = ap (λ y. y ∷ map items xs) (grows ∙ ap (λ u. items u ++ b ∷ []) at)
pushed-at items (x ∷ xs) (suc s) v w b h at grows =
    ap (λ ys. items x ∷ ys) (pushed-at items xs s v w b (omega (arith, h)) at grows)

-- an empty list more
pub none-more : {V : Type 0} (items : V → List Block) (lists : List V) (v : V)
    → ((s : ℕ) → get_or (map items lists) s [] ≡ []) → items v ≡ [] → (s : ℕ) → get_or (map items (lists ++ v ∷ [])) s [] ≡ []
none-more items [] v none is zero = is
none-more items [] v none is (suc s) = refl
none-more items (x ∷ xs) v none is zero = none 0
none-more items (x ∷ xs) v none is (suc s) = none-more items xs v (λ k. none (suc k)) is s

-- a list more, with room for as many as are wanted at its place
pub room-more : {V : Type 0} (room : V → ℕ) (wanted : ℕ → ℕ) (lists : List V) (v : V) → room v ≡ wanted (length lists)
    → ((s : ℕ) → s < length lists → get_or (map room lists) s 0 ≡ wanted s)
    → (s : ℕ) → s < length lists + 1 → get_or (map room (lists ++ v ∷ [])) s 0 ≡ wanted s
room-more room wanted [] v is before zero h = is
room-more room wanted [] v is before (suc s) h = absurd (omega (arith, h))
room-more room wanted (x ∷ xs) v is before zero h = before 0 (omega arith)
room-more room wanted (x ∷ xs) v is before (suc s) h =
    room-more room (λ k. wanted (suc k)) xs v is (λ k low. before (suc k) (omega (arith, low))) s (omega (arith, h))

only : (b y : Block) → Contains (b ∷ []) y → y ≡ b
only b y (zero, h, e) = sym e
only b y (suc k, h, e) = absurd (omega (arith, h))

none-some : (t : ℕ) → None ≡ Some t → ⊥
none-some t e = cc

module _ (cell : ℕ → ℕ → Option ℕ) where
  -- the same blocks begin before
  some-same : (t i j k l : ℕ) (xs : List Block) → ((b : Block) → IsBlock cell t b → IsBefore b i j ↔ IsBefore b k l)
      → AreSome cell t i j xs → AreSome cell t k l xs
  some-same t i j k l xs same old = record {
    ascending = old.ascending;
    exact = λ b. (
      (λ has. let was = (old.exact b).0 has in (was.0, (same b was.0).0 was.1)),
      (λ (is, before). (old.exact b).1 (is, (same b is).1 before)),
    );
  }

  before-more : (b : Block) (i j : ℕ) → IsBefore b i j → IsBefore b (i + 1) j
  before-more b i j (inl row) = inl row
  before-more b i j (inr (row, column)) = inr (row, omega (arith, column))

  before-or : (b : Block) (i j : ℕ) → IsBefore b (i + 1) j → IsBefore b i j ⊎ ((b.column ≡ i) × (b.row ≡ j))
  before-or b i j (inl row) = inl (inl row)
  before-or b i j (inr (row, column)) = elim (cases_lt b.column i) [
    | inl less ↦ inl (inr (row, less))
    | inr past ↦ inr (omega (arith, column, past), row)
  ]

  -- no block of the sector begins at the cell
  some-none : (t i j : ℕ) (xs : List Block) → ((b : Block) → IsBlock cell t b → b.column ≡ i → b.row ≡ j → ⊥)
      → AreSome cell t i j xs → AreSome cell t (i + 1) j xs
  some-none t i j xs none =
      some-same t i j (i + 1) j xs (λ b is. (
        before-more b i j,
        (λ before. elim (before-or b i j before) [
          | inl was ↦ was
          | inr at ↦ absurd (none b is at.0 at.1)
        ]),
      ))

  -- one does
  some-more : (t i j : ℕ) (xs : List Block) (b : Block) → IsBlock cell t b → b.column ≡ i → b.row ≡ j
      → AreSome cell t i j xs → AreSome cell t (i + 1) j (xs ++ b ∷ [])
  some-more t i j xs b is column row old = record {
    ascending =
        all_pairs_push StandsBefore xs b old.ascending (λ k d within.
        let was = ((old.exact (get_or xs k d)).0 (Contains-get_or xs k d within)).1 in
        elim was [
          | inl less ↦ inl (omega (arith, less, row))
          | inr same ↦ inr (same.0 ∙ sym row, omega (arith, same.1, column))
        ]);
    exact = λ y. (
      (λ has. elim (Contains-append_cases xs (b ∷ []) y has) [
        | inl old_one ↦ let was = (old.exact y).0 old_one in (was.0, before-more y i j was.1)
        | inr last ↦
            let same : b ≡ y = sym (only b y last) in
            subst (λ (u : Block). IsBlock cell t u × IsBefore u (i + 1) j) same (is, inr (row, omega (arith, column)))
      ]),
      (λ (block, before). elim (before-or y i j before) [
        | inl was ↦ Contains-append_left xs (b ∷ []) y ((old.exact y).1 (block, was))
        | inr at ↦
            let first : BeginsAt cell i j y = record { column = at.0; row = at.1; sector = t; block = block } in
            let other : BeginsAt cell i j b = record { column = column; row = row; sector = t; block = is } in
            let same : b ≡ y = sym (begins-one cell i j y b first other) in
            Contains-append_right xs (b ∷ []) y (zero, omega arith, same)
      ]),
    );
  }

  -- the next cell
  pub before-next : (i j : ℕ) (before after : List (List Block)) → AddsBlock cell i j before after
      → AreBlocksBefore cell i j before → AreBlocksBefore cell (i + 1) j after
  before-next i j before after (inl (none, same)) old =
      subst (AreBlocksBefore cell (i + 1) j) (sym same)
      (λ t within.
      some-none t i j (get_or before t []) (λ b is column row. none b (record { column = column; row = row; sector = t; block = is }))
      (old t within))
  before-next i j before after (inr (s, b, begins, here, pushes)) old =
      let last : List Block = get_or before s [] ++ b ∷ [] in
      subst (AreBlocksBefore cell (i + 1) j) (sym pushes)
      (λ t within.
      let listed : t < length before = omega (arith, within, length-set before s last) in
      elim (cases_eq t s) [
        | inl same ↦
            let own : begins.sector ≡ t = sector-same i j begins.sector t (sym (begins-cell cell i j b begins) ∙ here ∙ ap Some (sym same)) in
            let is : IsBlock cell t b = subst (λ r. IsBlock cell r b) own begins.block in
            let grown : get_or (set before s last) t [] ≡ get_or before t [] ++ b ∷ [] =
            subst (λ r. get_or (set before s last) r [] ≡ get_or before r [] ++ b ∷ []) (sym same)
            (get_or-set_same before s last [] (subst (λ r. r < length before) same listed)) in
            rw grown (some-more t i j (get_or before t []) b is begins.column begins.row (old t listed))
        | inr other ↦
            rw (get_or-set_other before s t last [] other)
            (some-none t i j (get_or before t [])
            (λ y is column row.
            let theirs : BeginsAt cell i j y = record { column = column; row = row; sector = t; block = is } in
            other (sector-same i j t s (sym (begins-cell cell i j y theirs) ∙ here)))
            (old t listed))
      ])
    where
      sector-same : (i j a c : ℕ) → Some a ≡ Some c → a ≡ c
      sector-same i j a c e = cc

  -- cells that show the same
  pub before-same : (i j : ℕ) (lists : List (List Block)) (count : ℕ) → ((c : ℕ) → i ≤ c → c < i + 1 + count → cell c j ≡ cell i j)
      → AreBlocksBefore cell (i + 1) j lists → AreBlocksBefore cell (i + 1 + count) j lists
  before-same i j lists zero same old = subst (λ k. AreBlocksBefore cell k j lists) (omega arith) old
  before-same i j lists (suc count) same old =
      let k = i + 1 + count in
      let none : (b : Block) → ¬ BeginsAt cell k j b = λ b begins.
      let shown = begins-cell cell k j b begins in
      let left : cell (k - 1) j ≡ Some begins.sector =
      same (k - 1) (omega arith) (omega arith) ∙ (sym (same k (omega arith) (omega arith)) ∙ shown) in
      begins-left cell k j b begins (omega arith) left in
      subst (λ n. AreBlocksBefore cell n j lists) (omega arith)
      (before-next k j lists lists (inl (none, refl))
      (before-same i j lists count (λ c after below. same c after (omega (arith, below))) old))

  -- the next row
  pub before-row : (columns j : ℕ) (lists : List (List Block)) → ((i k : ℕ) → columns ≤ i → cell i k ≡ None)
      → AreBlocksBefore cell columns j lists → AreBlocksBefore cell 0 (j + 1) lists
  before-row columns j lists beside old = λ t within.
      some-same t columns j 0 (j + 1) (get_or lists t []) (λ b is. (
        (λ before. elim before [ inl row ↦ inl (omega (arith, row)) | inr same ↦ inl (omega (arith, same.0)) ]),
        (λ before. elim before [
          | inl row ↦ elim (cases_lt b.row j) [
            | inl less ↦ inl less
            | inr past ↦ inr (omega (arith, row, past), column-in columns t b beside is)
          ]
          | inr same ↦ absurd (omega (arith, same.1))
        ]),
      )) (old t within)
    where
      column-in : (columns t : ℕ) (b : Block) → ((i k : ℕ) → columns ≤ i → cell i k ≡ None) → IsBlock cell t b → b.column < columns
      column-in columns t b beside is = elim (cases_lt b.column columns) [
        | inl less ↦ less
        | inr past ↦
            let both : None ≡ Some t = sym (beside b.column b.row past) ∙ block-cell cell t b is in
            absurd (none-some t both)
      ]

  -- no block begins before the first cell
  pub before-none : (lists : List (List Block)) → ((s : ℕ) → get_or lists s [] ≡ []) → AreBlocksBefore cell 0 0 lists
  before-none lists none = λ t within.
      rw (none t) (record {
        ascending = λ i k d below within'. absurd (omega (arith, within'));
        exact = λ b. (
          (λ has. absurd (omega (arith, has.1))),
          (λ (is, before). elim before [ inl row ↦ absurd (omega (arith, row)) | inr same ↦ absurd (omega (arith, same.1)) ]),
        );
      })

  -- all blocks begin before the row above the last
  pub before-all : (rows : ℕ) (lists : List (List Block)) → ((i k : ℕ) → rows ≤ k → cell i k ≡ None)
      → ((i j s : ℕ) → cell i j ≡ Some s → s < length lists)
      → AreBlocksBefore cell 0 rows lists → AreGroups cell lists
  before-all rows lists above every old = record {
    every = every;
    blocks = λ t within. let some = old t within in record {
      ascending = some.ascending;
      exact = λ b. (
        (λ has. ((some.exact b).0 has).0),
        (λ is. (some.exact b).1 (is, inl (row-in t b is))),
      );
    };
  }
    where
      row-in : (t : ℕ) (b : Block) → IsBlock cell t b → b.row < rows
      row-in t b is = elim (cases_lt b.row rows) [
        | inl less ↦ less
        | inr past ↦
            let both : None ≡ Some t = sym (above b.column b.row past) ∙ block-cell cell t b is in
            cc
      ]
