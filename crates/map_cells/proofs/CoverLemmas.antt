-- Each cell that shows a sector is in one block.
use Rattle.std.proofs.Common.{◌≡◌, ◌∙◌, ℕ, ◌≤◌, ◌⊎◌, inl, inr, Option, Some, None, refl, sym, subst, ap, arith}
use Rattle.std.proofs.lemmas.Bool.{cases_eq}
use Rattle.map_cells.specs.declared.block.Block.{Block}
use Rattle.map_cells.specs.Blocks.{IsRun, IsBlock, HasCell, IsInOneBlock}
use Rattle.map_cells.specs.Cells.{cell}
use Rattle.map_cells.specs.Grid.{columns_of, rows_of}
use Rattle.map_cells.specs.Laws.{OneBlockACell}
use Rattle.map_cells.proofs.CellLemmas.{cell-beside, cell-above}
use Rattle.map_cells.proofs.SpanLemmas.{IsSpan, spans-same, span-of, span-or-not}

shows-or-not : (o : Option ℕ) (s : ℕ) → (o ≡ Some s) ⊎ (¬ (o ≡ Some s))
shows-or-not None s = inr (λ e. cc)
shows-or-not (Some t) s = elim (cases_eq t s) [
  | inl same ↦ inl (ap Some same)
  | inr other ↦ inr (λ e. other cc)
]

module _ (shown : ℕ → ℕ → Option ℕ) where
  -- a column of the row shows the sector
  abbrev Shows : ℕ → ℕ → ℕ → Type 0
  Shows s j c = shown c j ≡ Some s

  -- a row has the run
  abbrev Has : ℕ → ℕ → ℕ → ℕ → Type 0
  Has s i n r = IsRun shown s i r n

  run-span : (s i j n : ℕ) → IsRun shown s i j n → IsSpan (Shows s j) i n
  run-span s i j n p = record { some = p.some; all = p.all; left = p.left; right = p.right }

  span-run : (s i j n : ℕ) → IsSpan (Shows s j) i n → IsRun shown s i j n
  span-run s i j n p = record { some = p.some; all = p.all; left = p.left; right = p.right }

  has-or-not : (s i n r : ℕ) → Has s i n r ⊎ (¬ Has s i n r)
  has-or-not s i n r = elim (span-or-not (Shows s r) (λ c. shows-or-not (shown c r) s) i n) [
    | inl is ↦ inl (span-run s i r n is)
    | inr fails ↦ inr (λ p. fails (run-span s i r n p))
  ]

  block-span : (s : ℕ) (b : Block) → IsBlock shown s b → IsSpan (Has s b.column b.width) b.row b.height
  block-span s b p = record { some = p.some; all = p.all; left = p.below; right = p.above }

  block-same : (a b : Block) → a.column ≡ b.column → a.row ≡ b.row → a.width ≡ b.width → a.height ≡ b.height → a ≡ b
  block-same a b x y w h = rw (x, y, w, h) refl

  -- a block's cells show its sector
  cell-shown : (s i j : ℕ) (b : Block) → IsBlock shown s b → HasCell b i j → shown i j ≡ Some s
  cell-shown s i j b p has = (p.all j has.lowest has.highest).all i has.left has.right

  -- two blocks of a sector that share a cell are one
  pub blocks-same : (s i j : ℕ) (a b : Block) → IsBlock shown s a → IsBlock shown s b → HasCell a i j → HasCell b i j → a ≡ b
  blocks-same s i j a b p q in_a in_b =
      let run_a = run-span s a.column j a.width (p.all j in_a.lowest in_a.highest) in
      let run_b = run-span s b.column j b.width (q.all j in_b.lowest in_b.highest) in
      let wide = spans-same (Shows s j) a.column a.width b.column b.width i run_a run_b in_a.left in_a.right in_b.left in_b.right in
      let rows_b : IsSpan (Has s a.column a.width) b.row b.height =
      subst (λ w. IsSpan (Has s a.column w) b.row b.height) (sym wide.1)
      (subst (λ c. IsSpan (Has s c b.width) b.row b.height) (sym wide.0) (block-span s b q)) in
      let high = spans-same (Has s a.column a.width) a.row a.height b.row b.height j (block-span s a p) rows_b in_a.lowest in_a.highest in_b.lowest in_b.highest in
      block-same a b wide.0 high.0 wide.1 high.1

  some-same : (a b : ℕ) → Some a ≡ Some b → a ≡ b
  some-same a b e = cc

  pub in-one-block : (columns rows : ℕ) → ((i j : ℕ) → columns ≤ i → shown i j ≡ None)
      → ((i j : ℕ) → rows ≤ j → shown i j ≡ None) → (i j s : ℕ) → shown i j ≡ Some s → IsInOneBlock shown i j s
  in-one-block columns rows beside above i j s here =
      let (column, width, run, left, right) =
      span-of (Shows s j) (λ c. shows-or-not (shown c j) s) columns (λ c past e. let none = sym (beside c j past) ∙ e in cc) i here in
      let (row, height, high, lowest, highest) =
      span-of (Has s column width) (has-or-not s column width) rows
      (λ r past p. let none = sym (above column r past) ∙ p.all column (omega arith) (omega (arith, p.some)) in cc)
      j (span-run s column j width run) in
      let block : Block = record { column = column; row = row; width = width; height = height } in
      let is : IsBlock shown s block = record { some = high.some; all = high.all; below = high.left; above = high.right } in
      let has : HasCell block i j = record { left = left; right = right; lowest = lowest; highest = highest } in
      record {
        block = block;
        is = is;
        has = has;
        only = λ r other p in_other.
            let same : r ≡ s = some-same r s (sym (cell-shown r i j other p in_other) ∙ here) in
            (same, blocks-same s i j other block (subst (λ t. IsBlock shown t other) same p) is in_other has);
      }

pub law_one_block : OneBlockACell
law_one_block cells i j s whole here =
    in-one-block (cell cells) (columns_of cells.grid) (rows_of cells.grid) (λ c r past. cell-beside cells c r past)
    (λ c r past. cell-above cells c r whole past) i j s here
