-- What is printed of numbers.
use Rattle.std.proofs.Common.{◌≡◌, ℕ, ◌^◌, ◌<◌, ◌↔◌, ℤ, pos, negsuc, neg_ℤ, zero, suc, List, true, false, length, All, get_or, ap, sym, ◌∙◌, subst, refl, arith, w64}
use Rattle.std.proofs.lemmas.Fmt.{decimal_nonempty, first_decimal, decimal_digit, digits_decimal, digits_value-decimal, decimal-digits_value}
use Rattle.std.proofs.lemmas.List.Elements.{recursion_from_All, All-from_recursion}
use Rattle.std.proofs.lemmas.Str.Parse.{IsNumeralModel, numerals_by_weight}
use Rattle.std.proofs.Common.{rules}
use Rattle.std.specs.Fmt.{decimal, signed_decimal}
use Rattle.std.specs.Int.RustNames.{FitsSigned}
use Rattle.std.specs.List.{AllByRecursion}
use Rattle.line_io.specs.Decimal.{IsDecimal}
use Rattle.line_io.specs.Numbers.{IsDigit, IsNumber, value_of}

own : IsNumeralModel (AllByRecursion IsDigit) value_of
own = numerals_by_weight _ (search rules) value_of (search rules)

all_digits : (n : ℕ) → n < 2 ^ 64 → All IsDigit (decimal n)
all_digits n small = All-from_recursion IsDigit (decimal n) (digits_decimal own n small)

no_leading_zero : (n : ℕ) → n < 2 ^ 64 → get_or (decimal n) 0 0 ≡ 48 → length (decimal n) ≡ 1
no_leading_zero zero small first = ap length (decimal_digit 0 (omega arith))
no_leading_zero (suc n) small first =
    absurd (omega (arith, first_decimal (suc n) (omega arith) small))

is_decimal : (n : ℕ) → n < 2 ^ 64 → IsDecimal (decimal n) n
is_decimal n small = record {
  some_digit = decimal_nonempty n small;
  all_digits = all_digits n small;
  no_leading_zero = no_leading_zero n small;
  stands_for = digits_value-decimal own n small;
}

pub one_text : (text : List ℕ) (number : ℕ) → number < 2 ^ 64
    → IsDecimal text number ↔ (text ≡ decimal number)
one_text text number small = (
  (λ is. let stands_for = is.stands_for in
      let below : value_of text < 2 ^ 64 = omega arith in
      sym (decimal-digits_value own text
      (recursion_from_All IsDigit text is.all_digits) is.some_digit is.no_leading_zero below)
      ∙ ap decimal stands_for),
  λ same. subst (λ (t : List ℕ). IsDecimal t number) (sym same) (is_decimal number small),
)

pub printed_is_read : (number : ℤ) → FitsSigned w64 number → IsNumber (signed_decimal number) number
printed_is_read (pos n) fits =
    let bound = fits.sfits in
    let small : n < 2 ^ 64 = omega arith in
    let is = is_decimal n small in
    record {
      negative = false;
      digits = decimal n;
      spelled = refl;
      some_digit = is.some_digit;
      all_digits = is.all_digits;
      stands_for = ap pos (sym is.stands_for);
    }
printed_is_read (negsuc n) fits =
    let bound = fits.sfits in
    let small : suc n < 2 ^ 64 = omega arith in
    let is = is_decimal (suc n) small in
    record {
      negative = true;
      digits = decimal (suc n);
      spelled = refl;
      some_digit = is.some_digit;
      all_digits = is.all_digits;
      stands_for = ap (λ (m : ℕ). neg_ℤ (pos m)) (sym is.stands_for);
    }
