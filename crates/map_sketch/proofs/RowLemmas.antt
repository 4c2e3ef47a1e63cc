-- Rows of numbers that are added to a list.
use Rattle.std.proofs.Common.{◌≡◌, ℕ, zero, suc, ◌+◌, ℤ, List, [], ◌∷◌, ◌++◌, sym, ap, ◌∙◌, arith}
use Rattle.std.specs.List.{flat_map, range_with_len}
use Rattle.std.proofs.lemmas.List.{flat_map_more}

-- the last of one number more
range_last : (a n j : ℕ) → a + n ≡ j → range_with_len a (suc n) ≡ range_with_len a n ++ j ∷ []
range_last a zero j e = let same : a ≡ j = omega arith in ap (λ k. k ∷ []) same
range_last a (suc n) j e = ap (λ l. a ∷ l) (range_last (a + 1) n j (omega arith))

-- one number more, from 0 on
pub range_more : (n : ℕ) → range_with_len 0 (n + 1) ≡ range_with_len 0 n ++ n ∷ []
range_more n = let on : n + 1 ≡ suc n = omega arith in ap (range_with_len 0) on ∙ range_last 0 n n (omega arith)

-- one row more
pub rows_more : {X : Type 0} (f : ℕ → List X) (i : ℕ) (before old new row : List X) → old ≡ before ++ flat_map f (range_with_len 0 i)
    → row ≡ f i → new ≡ old ++ row → new ≡ before ++ flat_map f (range_with_len 0 (i + 1))
rows_more f i before old new row was is adds =
    adds ∙ ap (λ l. l ++ row) was ∙ ap (λ l. (before ++ flat_map f (range_with_len 0 i)) ++ l) is
    ∙ flat_map_more f before (range_with_len 0 i) i ∙ ap (λ l. before ++ flat_map f l) (sym (range_more i))
