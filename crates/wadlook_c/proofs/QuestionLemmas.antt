-- What a question's numbers ask.
use Rattle.std.proofs.Common.{◌≡◌, ◌≢◌, ◌↔◌, ℕ, zero, suc, ◌+◌, ◌<◌, ◌≤◌, Bool, true, false, List, length, get_or, set, Option, None, Some, refl, sym, ap, ◌∙◌, subst, below_more, arith}
use Rattle.std.specs.Prelude.{IfNone, IfSome, ◌==◌, ◌&&◌, ◌||◌, nat_eq, nat_lt}
use Rattle.std.proofs.lemmas.Bool.{cond_both, eqb-false, ltb-false, ltb-true}
use Rattle.std.proofs.lemmas.List.{get_or-set_other, get_or-set_same}
use Rattle.std.proofs.lemmas.Option.{none-some}
use Rattle.level_codes.proofs.SetLemmas.{has-set_of}
use Rattle.level_codes.specs.Codes.{code_rank}
use Rattle.level_codes.specs.Sets.{group_codes, has, in_either, is_in, with_codes}
use Rattle.level_codes.specs.declared.set.CodeSet.{CodeSet}
use Rattle.level_codes.specs.declared.set.Group.TheVariants as group
use Rattle.map_cells.specs.CellCount.{IsCellCount}
use Rattle.wadlook_c.specs.Question.{Fails, HasBits, bit_at, cells_of, has_bit}

one_or_none : (n : ℕ) → n < 2 → nat_lt 0 n ≡ nat_eq n 1
one_or_none zero few = refl
one_or_none (suc zero) few = refl
one_or_none (suc (suc n)) few = absurd (omega arith)

-- a bit is set where there is one of it
pub counted_bit : (bits n : ℕ) → nat_lt 0 (bit_at bits n) ≡ has_bit bits n
counted_bit bits n = one_or_none (bit_at bits n) (omega arith)

-- the bits of one rank more
pub bits_more : (counts : List ℕ) (rank v bits : ℕ) → rank < length counts → ((k : ℕ) → k < rank → get_or counts k 0 ≡ bit_at bits k) → v ≡ bit_at bits rank
    → (k : ℕ) → k < rank + 1 → get_or (set counts rank v) k 0 ≡ bit_at bits k
bits_more counts rank v bits within before here =
    below_more (λ k. get_or (set counts rank v) k 0 ≡ bit_at bits k) rank
    (λ k less. let other : k ≢ rank = omega arith in get_or-set_other counts rank k v 0 other ∙ before k less)
    (get_or-set_same counts rank v 0 within ∙ here)

-- each warning is as grave as a fault, too
pub strict_fails : (bits : ℕ) (strict : Bool) (failing warnings set : CodeSet) → strict ≡ true → HasBits bits failing → warnings ≡ group_codes group.Warnings
    → set ≡ with_codes failing warnings → Fails bits strict set
strict_fails bits strict failing warnings set on have are is code =
    let warned : has warnings code ≡ is_in group.Warnings code = ap (λ (s : CodeSet). has s code) are ∙ has-set_of (is_in group.Warnings) code in
    ap (λ (s : CodeSet). has s code) is ∙ has-set_of (in_either failing warnings) code ∙ ap (λ b. b || has warnings code) (have code)
    ∙ ap (λ b. has_bit bits (code_rank code) || b) (warned ∙ sym (ap (λ s. s && is_in group.Warnings code) on))

or_none : (b : Bool) → b ≡ (b || false)
or_none true = refl
or_none false = refl

-- none is
pub lenient_fails : (bits : ℕ) (strict : Bool) (failing set : CodeSet) → strict ≡ false → HasBits bits failing → set ≡ failing → Fails bits strict set
lenient_fails bits strict failing set off have is code =
    ap (λ (s : CodeSet). has s code) is ∙ have code ∙ or_none (has_bit bits (code_rank code))
    ∙ sym (ap (λ s. has_bit bits (code_rank code) || (s && is_in group.Warnings code)) off)

-- a number that is no word's
pub past_words : (n : ℕ) → n ≢ 0 → n ≢ 1 → n ≢ 2 → n ≢ 3 → n ≢ 4 → n ≢ 5 → n ≢ 6 → n ≢ 7 → n ≢ 8 → n ≢ 9 → n ≢ 10 → n ≢ 11 → n ≢ 12 → n ≢ 13 → 13 < n
past_words n n0 n1 n2 n3 n4 n5 n6 n7 n8 n9 n10 n11 n12 n13 = omega (arith, n0, n1, n2, n3, n4, n5, n6, n7, n8, n9, n10, n11, n12, n13)

-- some cells are asked for
some_cells : (number : ℕ) → 1 ≤ cells_of number
some_cells number = cond_both (number == 0) 512 number (λ n. 1 ≤ n) (λ none. omega arith) (λ some. let other = eqb-false number 0 some in omega (arith, other))

-- as many as a picture may have are those that are asked for
pub counted_cells : (number count : ℕ) (found : Option ℕ) → count ≡ cells_of number → ((n : ℕ) → (found ≡ Some n) ↔ ((n ≡ count) × IsCellCount n))
    → IfSome found (λ n. n ≡ cells_of number)
counted_cells number count None is finds = tt
counted_cells number count (Some n) is finds = ((finds n).0 refl).0 ∙ is

-- or there are too many
pub too_many_cells : (number count : ℕ) (found : Option ℕ) → count ≡ cells_of number → ((n : ℕ) → (found ≡ Some n) ↔ ((n ≡ count) × IsCellCount n))
    → IfNone found (1024 < cells_of number)
too_many_cells number count (Some n) is finds = tt
too_many_cells number count None is finds = subst (λ n. 1024 < n) is (high (nat_lt 1024 count) refl)
  where
    high : (over : Bool) → nat_lt 1024 count ≡ over → 1024 < count
    high true e = ltb-true 1024 count e
    high false e = absurd (none-some count ((finds count).1 (refl, record { least = subst (λ n. 1 ≤ n) (sym is) (some_cells number); most = ltb-false 1024 count e })))
