-- The numbers of a content are those of its parts between spaces.
use Rattle.std.proofs.Common.{◌≡◌, ℕ, ◌<◌, ℤ, Bool, true, false, List, [], ◌∷◌, ◌++◌, length, All, map, Option, Some, None, option_map, nat_lt, nat_le, ◌==◌, ◌&&◌, cond, ap, sym, ◌∙◌, subst, refl, arith, ◌↔◌}
use Rattle.std.proofs.lemmas.Bool.Decides.{nat_tests}
use Rattle.std.proofs.lemmas.List.{append-nil}
use Rattle.std.proofs.lemmas.List.Elements.{recursion_from_All, All-from_recursion, All-append}
use Rattle.std.proofs.lemmas.List.Splits.{slice_split_none, slice_split_at, join_with_byte-slice_split}
use Rattle.std.specs.List.{AllZip, AllByRecursion, list_all, slice_split}
use Rattle.line_io.specs.Numbers.{IsDigit, IsNumber, AreNumbers, value_of, sign_text, signed, natural_of, number_of, numbers_of, all_some}
use Rattle.line_io.proofs.ReadingLemmas.{Reads, reads_of, something_read}

abbrev is_digit : ℕ → Bool
is_digit byte = nat_le 48 byte && nat_le byte 57

digit_passes : (byte : ℕ) → IsDigit byte → is_digit byte ≡ true
digit_passes byte digit = grind (arith, nat_tests)

digit_from_test : (byte : ℕ) → is_digit byte ≡ true → IsDigit byte
digit_from_test byte passes = grind (arith, nat_tests)

digits_pass : (digits : List ℕ) → AllByRecursion IsDigit digits → list_all is_digit digits ≡ true
digits_pass [] all = refl
digits_pass (d ∷ ds) all = rw (digit_passes d all.0) (digits_pass ds all.1)

digits_from_test : (digits : List ℕ) → list_all is_digit digits ≡ true
    → AllByRecursion IsDigit digits
digits_from_test [] passes = tt
digits_from_test (d ∷ ds) passes = go (is_digit d) refl passes (digits_from_test ds)
  where
    go : (t : Bool) → is_digit d ≡ t → (t && list_all is_digit ds) ≡ true
        → (list_all is_digit ds ≡ true → AllByRecursion IsDigit ds)
        → AllByRecursion IsDigit (d ∷ ds)
    go true e p rest = (digit_from_test d e, rest p)
    go false e p rest = absurd cc

natural_read : (digits : List ℕ) → 0 < length digits → AllByRecursion IsDigit digits
    → natural_of digits ≡ Some (value_of digits)
natural_read [] some all = absurd (omega (arith, some))
natural_read (d ∷ ds) some all = rw (digits_pass (d ∷ ds) all) (grind (arith, nat_tests))

read_signed : (negative : Bool) (digits : List ℕ) → 0 < length digits
    → AllByRecursion IsDigit digits
    → number_of (sign_text negative ++ digits) ≡ Some (signed negative (value_of digits))
read_signed true digits some all = ap (option_map (signed true)) (natural_read digits some all)
read_signed false [] some all = absurd (omega (arith, some))
read_signed false (d ∷ ds) some all =
    let digit = all.0 in
    let no_sign : (d == 45) ≡ false = grind (arith, nat_tests) in
    rw no_sign (ap (option_map (signed false)) (natural_read (d ∷ ds) some all))

number_read : (text : List ℕ) (number : ℤ) → IsNumber text number → number_of text ≡ Some number
number_read text number is =
    ap number_of is.spelled
    ∙ read_signed is.negative is.digits is.some_digit
    (recursion_from_All IsDigit is.digits is.all_digits)
    ∙ ap Some (sym is.stands_for)

natural_found : (negative : Bool) (digits : List ℕ) (number : ℤ)
    → option_map (signed negative) (natural_of digits) ≡ Some number
    → IsNumber (sign_text negative ++ digits) number
natural_found negative [] number e = absurd cc
natural_found negative (d ∷ ds) number e = go (list_all is_digit (d ∷ ds)) refl e
  where
    go : (t : Bool) → list_all is_digit (d ∷ ds) ≡ t
        → option_map (signed negative)
        (cond (nat_lt 0 (length (d ∷ ds)) && t) (Some (value_of (d ∷ ds))) None)
        ≡ Some number
        → IsNumber (sign_text negative ++ (d ∷ ds)) number
    go true pass e = record {
      negative = negative;
      digits = d ∷ ds;
      spelled = refl;
      some_digit = omega arith;
      all_digits = All-from_recursion IsDigit (d ∷ ds) (digits_from_test (d ∷ ds) pass);
      stands_for =
          let some : nat_lt 0 (length (d ∷ ds)) ≡ true =
          grind (arith, nat_tests) in let f = rw some at e in cc;
    }
    go false pass e =
        absurd (let some : nat_lt 0 (length (d ∷ ds))
        ≡ true = grind (arith, nat_tests) in let f = rw some at e in cc)

number_found : (text : List ℕ) (number : ℤ) → number_of text ≡ Some number → IsNumber text number
number_found [] number e = absurd cc
number_found (b ∷ bs) number e = go (b == 45) refl e
  where
    go : (t : Bool) → (b == 45) ≡ t
        → cond t (option_map (signed true) (natural_of bs))
        (option_map (signed false) (natural_of (b ∷ bs)))
        ≡ Some number
        → IsNumber (b ∷ bs) number
    go true minus e =
        let same : b ≡ 45 =
        grind (arith, nat_tests) in subst (λ (c : ℕ). IsNumber (c ∷ bs) number) (sym same)
        (natural_found true bs number e)
    go false minus e = natural_found false (b ∷ bs) number e

texts_found : (texts : List (List ℕ)) (numbers : List ℤ)
    → all_some (map number_of texts) ≡ Some numbers → AllZip IsNumber texts numbers
texts_found [] numbers e = let none : [] ≡ numbers = cc in subst (AllZip IsNumber []) none tt
texts_found (text ∷ texts) numbers e =
    go (number_of text) refl (all_some (map number_of texts)) refl e (texts_found texts)
  where
    go : (o : Option ℤ) → number_of text ≡ o → (r : Option (List ℤ))
        → all_some (map number_of texts) ≡ r → all_some (o ∷ map number_of texts) ≡ Some numbers
        →
        ((rest : List ℤ) → all_some (map number_of texts) ≡ Some rest → AllZip IsNumber texts rest)
        → AllZip IsNumber (text ∷ texts) numbers
    go None p r q f found = absurd cc
    go (Some number) p None q f found = absurd (let g = rw q at f in cc)
    go (Some number) p (Some rest) q f found =
        let same : number ∷ rest ≡ numbers = let g = rw q at f in cc in
        subst (AllZip IsNumber (text ∷ texts)) same (number_found text number p, found rest q)

-- no byte of a number is a space
no_space : (text : List ℕ) (number : ℤ) → IsNumber text number → All (λ b. (b == 32) ≡ false) text
no_space text number is =
    subst (All (λ b. (b == 32) ≡ false)) (sym is.spelled) (All-append (λ b. (b == 32) ≡ false)
    (sign_text is.negative) is.digits (sign is.negative)
    (λ k d below. let digit = is.all_digits k d below in grind (arith, nat_tests)))
  where
    sign : (negative : Bool) → All (λ b. (b == 32) ≡ false) (sign_text negative)
    sign true = All-from_recursion (λ b. (b == 32) ≡ false) (45 ∷ []) (refl, tt)
    sign false = All-from_recursion (λ b. (b == 32) ≡ false) [] tt

parts_read : (numbers : List ℤ) (number : ℤ) (text more : List ℕ) → IsNumber text number
    → Reads true more numbers
    → all_some (map number_of (slice_split (λ b. b == 32) (text ++ more))) ≡ Some (number ∷ numbers)
parts_read [] number text more is read =
    let whole : text ++ more ≡ text = ap (λ (tail : List ℕ). text ++ tail) read ∙ append-nil text in
    rw (
      whole,
      slice_split_none (λ b. b == 32) text (no_space text number is),
      number_read text number is,
    ) refl
parts_read (next ∷ numbers) number text more is (text', more', spelled, is', read) =
    rw (
      spelled,
      slice_split_at (λ b. b == 32) text 32 (text' ++ more') (no_space text number is) refl,
      number_read text number is,
    )
    (ap (option_map (λ (rest : List ℤ). number ∷ rest))
    (parts_read numbers next text' more' is' read))

pub by_parts : (content : List ℕ) (numbers : List ℤ)
    → AreNumbers content numbers ↔ (numbers_of content ≡ Some numbers)
by_parts [] numbers = (
  λ are. nothing numbers (reads_of [] numbers are),
  λ e. let none : []
      ≡ numbers = cc in subst (AreNumbers []) none (record {
        texts = [];
        each = tt;
        joined = refl;
      }),
)
  where
    nothing : (numbers : List ℤ) → Reads false [] numbers → Some [] ≡ Some numbers
    nothing [] read = refl
    nothing (n ∷ ns) (text, more, spelled, is, read) =
        absurd (something_read false [] text more n is spelled refl)
by_parts (b ∷ bs) numbers = (
  λ are. go numbers (reads_of (b ∷ bs) numbers are),
  λ e. record {
    texts = slice_split (λ b. b == 32) (b ∷ bs);
    each = texts_found _ numbers e;
    joined = sym (join_with_byte-slice_split 32 (b ∷ bs));
  },
)
  where
    go : (numbers : List ℤ) → Reads false (b ∷ bs) numbers → numbers_of (b ∷ bs) ≡ Some numbers
    go [] read = absurd cc
    go (n ∷ ns) (text, more, spelled, is, read) =
        ap (λ (bytes : List ℕ). all_some (map number_of (slice_split (λ b. b == 32) bytes))) spelled
        ∙ parts_read ns n text more is read
