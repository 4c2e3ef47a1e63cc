-- The digits of a number below 256, of which three are written and the leading zeros left out.
use Rattle.std.proofs.Common.{◌≡◌, ℕ, ℤ, pos, negsuc, ◌+◌, ◌-◌, ◌/◌, ◌%◌, ◌<◌, ◌≤◌, inl, inr, List, [], ◌∷◌, ◌++◌, decimal, length, drop, set, take, sym, ap, ◌∙◌, refl, true, false, arith}
use Rattle.std.proofs.lemmas.Bool.{cases_lt}
use Rattle.std.proofs.lemmas.Fmt.{decimal_digit, decimal_step}
use Rattle.std.proofs.lemmas.Int.{ints}
use Rattle.std.proofs.lemmas.List.{drop-drop, drop-set, drop-set-lt, drop_at, length-take-le}
use Rattle.std.specs.Fmt.{signed_decimal}
use Rattle.std.specs.Prelude.{int_lt, unsigned_abs}
use Rattle.line_io.proofs.ThreeDigitLemmas.{digits_by_place}

-- the number of digits
abbrev pub small_digits : ℕ → ℕ
small_digits n = 1 + (n + 246) / 256 + (n + 156) / 256

-- the three digits, written so that they end at a place
abbrev pub three_written : List ℕ → ℕ → ℕ → List ℕ
three_written bytes end n = take (end - 3) bytes ++ (digits_by_place n ++ drop (end - (end - 3)) (drop (end - 3) bytes))

three_stand : (bytes : List ℕ) (end n : ℕ) → 3 ≤ end → end ≤ length bytes
    → drop (end - 3) (three_written bytes end n) ≡ (48 + n / 100) ∷ (48 + n / 10 % 10) ∷ (48 + n % 10) ∷ drop end bytes
three_stand bytes end n some fits =
    let place : end - 3 + (end - (end - 3)) ≡ end = omega arith in
    drop_at (take (end - 3) bytes) _ (end - 3) (length-take-le (end - 3) bytes (omega arith))
    ∙ ap (λ rest. digits_by_place n ++ rest) (drop-drop (end - (end - 3)) (end - 3) bytes ∙ ap (λ k. drop k bytes) place)

-- what follows the first of them
later : (bytes : List ℕ) (end n k at : ℕ) → 3 ≤ end → end ≤ length bytes → at ≡ end - 3 + k
    → drop at (three_written bytes end n) ≡ drop k ((48 + n / 100) ∷ (48 + n / 10 % 10) ∷ (48 + n % 10) ∷ drop end bytes)
later bytes end n k at some fits place =
    ap (λ p. drop p (three_written bytes end n)) place ∙ sym (drop-drop k (end - 3) (three_written bytes end n)) ∙ ap (drop k) (three_stand bytes end n some fits)

two_digits : (n : ℕ) → 10 ≤ n → n < 100 → decimal n ≡ (48 + n / 10) ∷ (48 + n % 10) ∷ []
two_digits n least most = decimal_step n least (omega arith) ∙ ap (λ ds. ds ++ (48 + n % 10) ∷ []) (decimal_digit (n / 10) (omega arith))

three_digits : (n : ℕ) → 100 ≤ n → n < 256 → decimal n ≡ (48 + n / 100) ∷ (48 + n / 10 % 10) ∷ (48 + n % 10) ∷ []
three_digits n least most =
    let hundreds : n / 10 / 10 ≡ n / 100 = omega arith in
    decimal_step n (omega arith) (omega arith)
    ∙ ap (λ ds. ds ++ (48 + n % 10) ∷ []) (two_digits (n / 10) (omega arith) (omega arith) ∙ ap (λ d. (48 + d) ∷ (48 + n / 10 % 10) ∷ []) hundreds)

-- the digits are those of the number, and what stood behind them stays
pub small_written : (bytes : List ℕ) (end n : ℕ) → n < 256 → 3 ≤ end → end ≤ length bytes
    → (length (decimal n) ≡ small_digits n) × (drop (end - small_digits n) (three_written bytes end n) ≡ decimal n ++ drop end bytes)
small_written bytes end n small some fits = elim (cases_lt n 10) [
  | inl one ↦
      let digits : small_digits n ≡ 1 = omega arith in
      let place : end - 1 ≡ end - 3 + 2 = omega arith in
      let same : 48 + n % 10 ≡ 48 + n = omega arith in
      let is : decimal n ≡ (48 + n) ∷ [] = decimal_digit n one in
      (ap length is ∙ sym digits, rw (digits, is) (later bytes end n 2 (end - 1) some fits place ∙ ap (λ d. d ∷ drop end bytes) same))
  | inr more ↦ elim (cases_lt n 100) [
    | inl two ↦
        let digits : small_digits n ≡ 2 = omega arith in
        let place : end - 2 ≡ end - 3 + 1 = omega arith in
        let same : n / 10 % 10 ≡ n / 10 = omega arith in
        let is = two_digits n more two in
        (ap length is ∙ sym digits, rw (digits, is) (later bytes end n 1 (end - 2) some fits place ∙ ap (λ d. (48 + d) ∷ (48 + n % 10) ∷ drop end bytes) same))
    | inr three ↦
        let digits : small_digits n ≡ 3 = omega arith in
        let is = three_digits n three small in
        (ap length is ∙ sym digits, rw (digits, is) (three_stand bytes end n some fits))
  ]
]

-- the text of a number below zero, and of another
pub signed_below : (z : ℤ) → int_lt z (pos 0) ≡ true → signed_decimal z ≡ 45 ∷ decimal (unsigned_abs z)
signed_below (pos n) below = absurd (omega (arith, ints))
signed_below (negsuc n) below = refl

pub signed_from : (z : ℤ) → int_lt z (pos 0) ≡ false → signed_decimal z ≡ decimal (unsigned_abs z)
signed_from (pos n) from = refl
signed_from (negsuc n) from = absurd (omega (arith, ints))

-- a sign that is written before a text, and is a part of it or isn't
pub sign_kept : (bytes text : List ℕ) (at : ℕ) → 1 ≤ at → at ≤ length bytes → drop at bytes ≡ text → drop (at - 1) (set bytes (at - 1) 45) ≡ 45 ∷ text
sign_kept bytes text at some fits is =
    let e : at - 1 + 1 ≡ at = omega arith in
    drop-set bytes (at - 1) 45 (omega arith) ∙ ap (λ k. 45 ∷ drop k bytes) e ∙ ap (λ t. 45 ∷ t) is

pub sign_left_out : (bytes text : List ℕ) (at : ℕ) → 1 ≤ at → drop at bytes ≡ text → drop at (set bytes (at - 1) 45) ≡ text
sign_left_out bytes text at some is = drop-set-lt at bytes (at - 1) 45 (omega arith) ∙ is
