-- Sectors listed one after another.
use Rattle.std.proofs.Common.{◌≡◌, ◌∙◌, ℕ, ◌+◌, ◌<◌, ◌≤◌, inl, inr, List, [], ◌∷◌, ◌++◌, get_or, sym, subst, arith}
use Rattle.std.specs.Prelude.{All}
use Rattle.std.proofs.lemmas.Bool.{cases_eq}
use Rattle.std.proofs.lemmas.List.Elements.{All-from_get_or, All-get_or, All-nil, All-push, Contains-append_left, Contains-push}
use Rattle.std.proofs.lemmas.List.Quantifiers.{all_pairs_push}
use Rattle.map_cells.specs.declared.block.Block.{Block}
use Rattle.map_picture.specs.Listing.{AreListed, IsListed}
use Rattle.map_picture.specs.declared.sectors.SectorCells.{SectorCells}

module _ (lists : List (List Block)) (counts : List ℕ) where
  -- none yet
  pub listed-none : AreListed lists counts 0 []
  listed-none = record {
    ascending = λ i j d less within. absurd (omega (arith, within));
    each = All-nil (IsListed lists counts 0);
    every = λ s below some. absurd (omega (arith, below));
  }

  next-each : (n : ℕ) (list : List SectorCells) (d : SectorCells) → All (IsListed lists counts n) list → All (IsListed lists counts (n + 1)) list
  next-each n list d old =
      All-from_get_or (IsListed lists counts (n + 1)) list d (λ i within.
      let was = All-get_or (IsListed lists counts n) list i d within old in
      record { below = omega (arith, was.below); some = was.some; count = was.count; blocks = was.blocks })

  -- a sector more
  pub listed-more : (n : ℕ) (list : List SectorCells) (one : SectorCells) → AreListed lists counts n list
      → one.number ≡ n → 0 < one.cells → one.cells ≡ get_or counts n 0 → one.blocks.now ≡ get_or lists n []
      → AreListed lists counts (n + 1) (list ++ one ∷ [])
  listed-more n list one old number some count blocks = record {
    ascending =
        all_pairs_push (λ (a b : SectorCells). a.number < b.number) list one old.ascending (λ k d within.
        let was = All-get_or (IsListed lists counts n) list k d within old.each in
        omega (arith, was.below, number));
    each =
        All-push (IsListed lists counts (n + 1)) list one (next-each n list one old.each)
        (record {
          below = omega (arith, number);
          some = some;
          count = subst (λ m. one.cells ≡ get_or counts m 0) (sym number) count;
          blocks = subst (λ m. one.blocks.now ≡ get_or lists m []) (sym number) blocks;
        });
    every = λ s below has. elim (cases_eq s n) [
      | inl same ↦ (one, Contains-push list one, number ∙ sym same)
      | inr other ↦
          let less : s < n = omega (arith, below, other) in
          let was = old.every s less has in
          (was.0, Contains-append_left list (one ∷ []) was.0 was.1, was.2)
    ];
  }

  -- one that has no cells
  pub listed-past : (n : ℕ) (list : List SectorCells) → AreListed lists counts n list → get_or counts n 0 ≤ 0 → AreListed lists counts (n + 1) list
  listed-past n list old few = record {
    ascending = old.ascending;
    each = all-next list old.each;
    every = λ s below has. elim (cases_eq s n) [
      | inl same ↦ absurd (omega (arith, has, subst (λ m. get_or counts m 0 ≤ 0) (sym same) few))
      | inr other ↦ let less : s < n = omega (arith, below, other) in old.every s less has
    ];
  }
    where
      all-next : (xs : List SectorCells) → All (IsListed lists counts n) xs → All (IsListed lists counts (n + 1)) xs
      all-next [] was = All-nil (IsListed lists counts (n + 1))
      all-next (x ∷ xs) was = next-each n (x ∷ xs) x was
