-- Numbers that are guessed where they stand.
use Rattle.std.proofs.Common.{◌≡◌, ℕ, ◌+◌, ◌-◌, ◌*◌, ◌^◌, ◌<◌, ◌≤◌, ℤ, pos, negsuc, neg_ℤ, zero, suc, Bool, true, false, List, [], ◌∷◌, ◌++◌, length, take, drop, get_or, drop-cons, All, refl, sym, ap, ◌∙◌, subst, arith, w8, slice_index, length-append}
use Rattle.std.proofs.Math.Nat.{mul-le-mul_left, pow-suc}
use Rattle.std.proofs.Math.Seq.{drop-length}
use Rattle.std.proofs.lemmas.Bool.Decides.{Decides-eqb}
use Rattle.std.proofs.lemmas.List.{take-append-drop}
use Rattle.std.proofs.lemmas.List.Elements.{All-cons, All-head, All-nil}
use Rattle.std.proofs.lemmas.Slice.Eq.{starts_is}
use Rattle.std.specs.Fmt.{decimal, signed_decimal}
use Rattle.std.specs.Int.RustNames.{FitsSigned}
use Rattle.std.specs.List.{starts_with}
use Rattle.std.specs.Prelude.{nat_eq}
use Rattle.demo_engines.specs.Parts.{Stops}
use Rattle.demo_engines.specs.Parts.Stops.{ended, other}
use Rattle.demo_engines.proofs.RunLemmas.{decimal_is, no_dash, same_run}
use Rattle.line_io.proofs.TextLemmas.{one_text}
use Rattle.line_io.specs.Decimal.{IsDecimal}
use Rattle.line_io.specs.Numbers.{IsDigit, value_of}

-- the front of a text is a label, or it isn't
pub label_some : (text label : List ℕ) → starts_with nat_eq text label ≡ true → text ≡ label ++ drop (length label) text
label_some text label starts = (starts_is Decides-eqb text label true (sym starts)).0 refl

pub label_none : (text label rest : List ℕ) → starts_with nat_eq text label ≡ false → text ≡ label ++ rest → ⊥
label_none text label rest starts same =
    let is = (starts_is Decides-eqb text label false (sym starts)).1 rest same in
    let f : ⊥ = cc in f

-- the number at a text's front, where its digits are cut off
pub number_there : (digits behind rest : List ℕ) (n : ℕ) → n < 2 ^ 64 → All IsDigit digits → Stops IsDigit behind → Stops IsDigit rest
    → digits ++ behind ≡ decimal n ++ rest → (digits ≡ decimal n) × (behind ≡ rest)
number_there digits behind rest n small all stops stop same = same_run IsDigit digits (decimal n) behind rest all (decimal_is n small).all_digits stops stop same

-- a number begins with a digit, so a label ends there
pub number_stops : (n : ℕ) (rest : List ℕ) → n < 2 ^ 64 → Stops (λ byte. ¬ IsDigit byte) (decimal n ++ rest)
number_stops n rest small = begins (decimal n) (decimal_is n small).some_digit (decimal_is n small).all_digits
  where
    begins : (digits : List ℕ) → 0 < length digits → All IsDigit digits → Stops (λ byte. ¬ IsDigit byte) (digits ++ rest)
    begins [] some all = absurd (omega (arith, some))
    begins (d ∷ digits) some all = other d (digits ++ rest) (λ not. not (All-head IsDigit d digits all))

-- fewer digits have no greater value
more_power : (k m : ℕ) → 10 ^ m ≤ 10 ^ (m + k)
more_power zero m = let e : m + 0 ≡ m = omega arith in rw e (omega arith)
more_power (suc k) m =
    let e : m + suc k ≡ suc (m + k) = omega arith in
    rw e (omega (arith, more_power k m, pow-suc 10 (m + k)))

value_front : (a b : List ℕ) → value_of a ≤ value_of (a ++ b)
value_front [] b = omega arith
value_front (x ∷ a) b =
    let more : 10 ^ length a ≤ 10 ^ length (a ++ b) = subst (λ n. 10 ^ length a ≤ 10 ^ n) (sym (length-append a b)) (more_power (length b) (length a)) in
    let weighed : (x - 48) * 10 ^ length a ≤ (x - 48) * 10 ^ length (a ++ b) = mul-le-mul_left (x - 48) more in
    omega (arith, weighed, value_front a b)

pub value_take : (digits : List ℕ) (i : ℕ) → value_of (take i digits) ≤ value_of digits
value_take digits i = subst (λ t. value_of (take i digits) ≤ value_of t) (take-append-drop i digits) (value_front (take i digits) (drop i digits))

pub text_of : (digits : List ℕ) (n : ℕ) → All IsDigit digits → 0 < length digits → (slice_index digits 0 ≡ 48 → length digits ≡ 1) → n ≡ value_of digits → n < 2 ^ 64
    → digits ≡ decimal n
text_of digits n all some canonical is small = (one_text digits n small).0 (record { some_digit = some; all_digits = all; no_leading_zero = canonical; stands_for = sym is })

pub is_canonical_text : (digits : List ℕ) (n : ℕ) → n < 2 ^ 64 → digits ≡ decimal n → (0 < length digits) × (slice_index digits 0 ≡ 48 → length digits ≡ 1)
is_canonical_text digits n small is =
    let d = subst (λ t. IsDecimal t n) (sym is) (decimal_is n small) in
    (d.some_digit, d.no_leading_zero)

pub too_great : (digits : List ℕ) (n : ℕ) → n < 2 ^ 64 → 2 ^ 64 ≤ value_of digits → digits ≡ decimal n → ⊥
too_great digits n small great is =
    let d = subst (λ t. IsDecimal t n) (sym is) (decimal_is n small) in
    omega (arith, d.stands_for, great, small)

-- a number with its sign, where its magnitude is guessed behind the sign
no_sign : (text rest : List ℕ) (n : ℕ) (s : Bool) → n < 2 ^ 64 → text ≡ decimal n ++ rest → starts_with nat_eq text (45 ∷ []) ≡ s → s ≡ false
no_sign text rest n false small same e = refl
no_sign text rest n true small same e =
    absurd (no_dash (decimal n) rest (drop 1 text) (decimal_is n small).some_digit (decimal_is n small).all_digits (sym same ∙ label_some text (45 ∷ []) e))

a_sign : (text rest : List ℕ) (s : Bool) → text ≡ 45 ∷ rest → starts_with nat_eq text (45 ∷ []) ≡ s → s ≡ true
a_sign text rest true same e = refl
a_sign text rest false same e = absurd (label_none text (45 ∷ []) rest e same)

pub signed_there : (text behind : List ℕ) (negative : Bool) (magnitude : ℕ) (value : ℤ) → starts_with nat_eq text (45 ∷ []) ≡ negative
    → ((label rest : List ℕ) (n : ℕ) → n < 256 → All (λ byte. ¬ IsDigit byte) label → Stops IsDigit rest → text ≡ label ++ (decimal n ++ rest) → (magnitude ≡ n) × (behind ≡ rest))
    → (negative ≡ false → magnitude < 128 → value ≡ pos magnitude) → (negative ≡ true → magnitude ≤ 128 → value ≡ neg_ℤ (pos magnitude))
    → (z : ℤ) (rest : List ℕ) → FitsSigned w8 z → Stops IsDigit rest → text ≡ signed_decimal z ++ rest → (value ≡ z) × (behind ≡ rest)
signed_there text behind negative magnitude value starts guess is_positive is_negative (pos n) rest fits stops same =
    let bound = fits.sfits in
    let found = guess [] rest n (omega arith) (All-nil _) stops same in
    let is = found.0 in
    (is_positive (no_sign text rest n negative (omega arith) same starts) (omega (arith, is)) ∙ ap pos is, found.1)
signed_there text behind negative magnitude value starts guess is_positive is_negative (negsuc n) rest fits stops same =
    let bound = fits.sfits in
    let found = guess (45 ∷ []) rest (suc n) (omega arith) (All-cons (λ byte. ¬ IsDigit byte) 45 [] (λ is. omega (arith, is.0)) (All-nil _)) stops same in
    let is = found.0 in
    (is_negative (a_sign text (decimal (suc n) ++ rest) negative same starts) (omega (arith, is)) ∙ ap (λ m. neg_ℤ (pos m)) is, found.1)

-- where a run ends
pub stops_at : (P : ℕ → Type 0) (text : List ℕ) (i : ℕ) → i < length text → ¬ P (get_or text i 0) → Stops P (drop i text)
stops_at P text i there not = subst (Stops P) (sym (drop-cons text i 0 there)) (other (get_or text i 0) (drop (suc i) text) not)

pub stops_behind : (P : ℕ → Type 0) (text : List ℕ) → Stops P (drop (length text) text)
stops_behind P text = subst (Stops P) (sym (drop-length text)) ended
