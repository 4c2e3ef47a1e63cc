-- Numbers at the front of a text, which end where their digits do.
use Rattle.std.proofs.Common.{◌≡◌, ℕ, ◌/◌, ◌%◌, ◌^◌, ◌<◌, ◌==◌, true, false, if◌then◌else◌, ℤ, pos, negsuc, zero, suc, List, [], ◌∷◌, ◌++◌, length, All, refl, sym, ap, ◌∙◌, subst, arith, w8}
use Rattle.std.proofs.lemmas.Fmt.{decimal_injective}
use Rattle.std.proofs.lemmas.List.Elements.{All-head, All-tail}
use Rattle.std.proofs.lemmas.Bool.Decides.{nat_tests}
use Rattle.std.specs.Fmt.{decimal, digit_glyph, digits, digits_onto, signed_decimal}
use Rattle.std.specs.Int.RustNames.{FitsSigned}
use Rattle.demo_engines.specs.Parts.{Stops}
use Rattle.demo_engines.specs.Parts.Stops.{other}
use Rattle.line_io.proofs.TextLemmas.{one_text}
use Rattle.line_io.specs.Decimal.{IsDecimal}
use Rattle.line_io.specs.Numbers.{IsDigit}

no_more : (P : ℕ → Type 0) (byte : ℕ) (more text : List ℕ) → Stops P text → text ≡ byte ∷ more → ¬ P byte
no_more P byte more [] stops same = absurd (let f : ⊥ = cc in f)
no_more P byte more (b ∷ text) (other _ _ not) same = λ is. let first : byte ≡ b = cc in not (subst P first is)

-- a run of bytes of a kind, and what stops it, are cut in one way
pub same_run : (P : ℕ → Type 0) (a b x y : List ℕ) → All P a → All P b → Stops P x → Stops P y → a ++ x ≡ b ++ y → (a ≡ b) × (x ≡ y)
same_run P [] [] x y of_a of_b stop_x stop_y same = (refl, same)
same_run P (c ∷ a) (d ∷ b) x y of_a of_b stop_x stop_y same =
    let first : c ≡ d = cc in
    let later : a ++ x ≡ b ++ y = cc in
    let rest = same_run P a b x y (All-tail P c a of_a) (All-tail P d b of_b) stop_x stop_y later in
    (ap (λ e. e ∷ a) first ∙ ap (λ t. d ∷ t) rest.0, rest.1)
same_run P [] (d ∷ b) x y of_a of_b stop_x stop_y same = absurd (no_more P d (b ++ y) x stop_x same (All-head P d b of_b))
same_run P (c ∷ a) [] x y of_a of_b stop_x stop_y same = absurd (no_more P c (a ++ x) y stop_y (sym same) (All-head P c a of_a))

glyph_is : (d : ℕ) → d < 10 → IsDigit (digit_glyph false d)
glyph_is d small = grind (arith, nat_tests)

pub decimal_is : (n : ℕ) → n < 2 ^ 64 → IsDecimal (decimal n) n
decimal_is n small = (one_text (decimal n) n small).1 refl

-- each number's text begins with a digit
pub record BeginsWithDigit (text : List ℕ) : Type 0 where
  pub digit : ℕ
  pub more : List ℕ
  pub is : text ≡ digit ∷ more
  pub kind : IsDigit digit

onto_begins : (k n digit : ℕ) (more : List ℕ) → IsDigit digit → BeginsWithDigit (digits_onto k 10 false n (digit ∷ more))
onto_begins zero n digit more kind = record { digit = digit; more = more; is = refl; kind = kind }
onto_begins (suc k) n digit more kind =
    let last : IsDigit (digit_glyph false (n % 10)) = glyph_is (n % 10) (omega arith) in
    elim (n / 10 == 0) as (λ t. BeginsWithDigit (if t then digit_glyph false (n % 10) ∷ digit ∷ more else digits_onto k 10 false (n / 10) (digit_glyph false (n % 10) ∷ digit ∷ more))) [
      | true ↦ record { digit = digit_glyph false (n % 10); more = digit ∷ more; is = refl; kind = last }
      | false ↦ onto_begins k (n / 10) (digit_glyph false (n % 10)) (digit ∷ more) last
    ]

begins_onto : (k n : ℕ) → BeginsWithDigit (digits_onto (suc k) 10 false n [])
begins_onto k n =
    let last : IsDigit (digit_glyph false (n % 10)) = glyph_is (n % 10) (omega arith) in
    elim (n / 10 == 0) as (λ t. BeginsWithDigit (if t then digit_glyph false (n % 10) ∷ [] else digits_onto k 10 false (n / 10) (digit_glyph false (n % 10) ∷ []))) [
      | true ↦ record { digit = digit_glyph false (n % 10); more = []; is = refl; kind = last }
      | false ↦ onto_begins k (n / 10) (digit_glyph false (n % 10)) [] last
    ]

pub decimal_begins : (n : ℕ) → BeginsWithDigit (decimal n)
unfolding digits
decimal_begins n = begins_onto 63 n

-- numbers
pub same_number : (n m : ℕ) (x y : List ℕ) → n < 2 ^ 64 → m < 2 ^ 64 → Stops IsDigit x → Stops IsDigit y → decimal n ++ x ≡ decimal m ++ y → (n ≡ m) × (x ≡ y)
same_number n m x y small_n small_m stop_x stop_y same =
    let run = same_run IsDigit (decimal n) (decimal m) x y (decimal_is n small_n).all_digits (decimal_is m small_m).all_digits stop_x stop_y same in
    (decimal_injective n m small_n small_m run.0, run.1)

-- no digits begin with a dash
pub no_dash : (digits x y : List ℕ) → 0 < length digits → All IsDigit digits → digits ++ x ≡ 45 ∷ y → ⊥
no_dash [] x y some of same = omega (arith, some)
no_dash (d ∷ digits) x y some of same =
    let first : d ≡ 45 = cc in
    let is = All-head IsDigit d digits of in
    omega (arith, is.0, first)

-- numbers of eight bits with their sign
pub same_signed : (n m : ℤ) (x y : List ℕ) → FitsSigned w8 n → FitsSigned w8 m → Stops IsDigit x → Stops IsDigit y → signed_decimal n ++ x ≡ signed_decimal m ++ y → (n ≡ m) × (x ≡ y)
same_signed (pos n) (pos m) x y fits_n fits_m stop_x stop_y same =
    let bound_n = fits_n.sfits in
    let bound_m = fits_m.sfits in
    let is = same_number n m x y (omega arith) (omega arith) stop_x stop_y same in
    (ap pos is.0, is.1)
same_signed (negsuc n) (negsuc m) x y fits_n fits_m stop_x stop_y same =
    let bound_n = fits_n.sfits in
    let bound_m = fits_m.sfits in
    let later : decimal (suc n) ++ x ≡ decimal (suc m) ++ y = cc in
    let is = same_number (suc n) (suc m) x y (omega arith) (omega arith) stop_x stop_y later in
    let one : n ≡ m = omega (arith, is.0) in
    (ap negsuc one, is.1)
same_signed (pos n) (negsuc m) x y fits_n fits_m stop_x stop_y same =
    let bound_n = fits_n.sfits in
    let is = decimal_is n (omega arith) in
    absurd (no_dash (decimal n) x (decimal (suc m) ++ y) is.some_digit is.all_digits same)
same_signed (negsuc n) (pos m) x y fits_n fits_m stop_x stop_y same =
    let bound_m = fits_m.sfits in
    let is = decimal_is m (omega arith) in
    absurd (no_dash (decimal m) y (decimal (suc n) ++ x) is.some_digit is.all_digits (sym same))
