-- The bytes of the first linedefs.
use Rattle.std.proofs.Common.{◌≡◌, ℕ, zero, suc, ◌+◌, List, [], ◌∷◌, ◌++◌, sym, ap, ◌∙◌, arith}
use Rattle.std.specs.List.{flat_map, range_with_len}
use Rattle.std.proofs.lemmas.List.{flat_map_more}
use Rattle.map_level.specs.Level.{Level}
use Rattle.wad_page.specs.Linedefs.{linedef_bytes}

-- the last of one number more
range_last : (a n j : ℕ) → a + n ≡ j → range_with_len a (suc n) ≡ range_with_len a n ++ j ∷ []
range_last a zero j e = let same : a ≡ j = omega arith in ap (λ k. k ∷ []) same
range_last a (suc n) j e = ap (λ l. a ∷ l) (range_last (a + 1) n j (omega arith))

range_more : (n : ℕ) → range_with_len 0 (n + 1) ≡ range_with_len 0 n ++ n ∷ []
range_more n = let on : n + 1 ≡ suc n = omega arith in ap (range_with_len 0) on ∙ range_last 0 n n (omega arith)

-- those of one linedef more
pub linedefs_more : (level : Level) (i : ℕ) (old new row : List ℕ) → old ≡ flat_map (linedef_bytes level) (range_with_len 0 i)
    → row ≡ linedef_bytes level i → new ≡ old ++ row → new ≡ flat_map (linedef_bytes level) (range_with_len 0 (i + 1))
linedefs_more level i old new row before is adds =
    adds ∙ ap (λ l. l ++ row) before ∙ ap (λ l. flat_map (linedef_bytes level) (range_with_len 0 i) ++ l) is
    ∙ flat_map_more (linedef_bytes level) [] (range_with_len 0 i) i ∙ ap (flat_map (linedef_bytes level)) (sym (range_more i))
