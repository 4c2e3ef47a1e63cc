-- The first place at which bytes differ.
use Rattle.std.proofs.Common.{◌≡◌, ◌≢◌, ℕ, ◌<◌, ◌≤◌, List, length, min, take, get_or, sym, ◌∙◌, inl, inr, arith}
use Rattle.std.proofs.lemmas.Bool.{cases_lt}
use Rattle.std.proofs.lemmas.List.{take_all}
use Rattle.std.proofs.lemmas.Option.{none-some, same_Some, slice_get-get_or, slice_get_past}
use Rattle.std.specs.List.{slice_get}
use Rattle.demo_listings.specs.Differences.{DifferAt}

pub differ_here : (xs ys : List ℕ) (i : ℕ) → i < length xs → i < length ys → take i xs ≡ take i ys → get_or xs i 0 ≢ get_or ys i 0 → DifferAt xs ys i
differ_here xs ys i of_xs of_ys before differ = record {
  before = before;
  here = λ same. differ (same_Some _ _ (sym (slice_get-get_or xs i 0 of_xs) ∙ same ∙ slice_get-get_or ys i 0 of_ys));
}

-- where one ends and the other goes on
past_differs : (xs ys : List ℕ) (n : ℕ) → length xs ≤ n → n < length ys → slice_get xs n ≢ slice_get ys n
past_differs xs ys n past within same =
    none-some (get_or ys n 0) (sym (slice_get_past xs n past) ∙ same ∙ slice_get-get_or ys n 0 within)

pub differ_past : (xs ys : List ℕ) (n : ℕ) → n ≡ min (length xs) (length ys) → length xs ≢ length ys
    → take n xs ≡ take n ys → DifferAt xs ys n
differ_past xs ys n least apart before = elim (cases_lt (length xs) (length ys)) [
  | inl shorter ↦ record { before = before; here = past_differs xs ys n (omega (arith, least, shorter)) (omega (arith, least, shorter)) }
  | inr longer ↦
      let other : length ys < length xs = omega (arith, longer, apart) in
      record { before = before; here = λ same. past_differs ys xs n (omega (arith, least, other)) (omega (arith, least, other)) (sym same) }
]

pub same_all : (xs ys : List ℕ) (n : ℕ) → n ≡ min (length xs) (length ys) → length xs ≡ length ys
    → take n xs ≡ take n ys → xs ≡ ys
same_all xs ys n least long before =
    sym (take_all n xs (omega (arith, least, long))) ∙ before ∙ take_all n ys (omega (arith, least, long))
