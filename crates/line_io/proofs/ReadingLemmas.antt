-- A content is read in one way.
use Rattle.std.proofs.Common.{◌≡◌, ◌≢◌, ℕ, ◌+◌, ◌<◌, ◌≤◌, ℤ, Bool, true, false, List, [], ◌∷◌, ◌++◌, length, take, All, min, ap, sym, ◌∙◌, subst, refl, arith, append_assoc, nat_lt, set, inl, inr, map, pos, negsuc, IsTrue, decimal, Option, Some, None, length-append, get_or, drop, zero, suc, length-take-le}
use Rattle.std.proofs.lemmas.Bool.Decides.{nat_tests}
use Rattle.std.proofs.lemmas.Bool.{cases_lt, false≢true}
use Rattle.std.proofs.lemmas.Fmt.{decimal_digit}
use Rattle.std.specs.Fmt.{signed_decimal}
use Rattle.line_io.proofs.TextLemmas.{one_text}
use Rattle.std.specs.Option.{MatchOption}
use Rattle.std.proofs.lemmas.List.{length_push, map_push, take_more_set, take_all, append-nil, append_cancel_left, nil_from_length, take-append-drop}
use Rattle.std.proofs.lemmas.List.Elements.{recursion_from_All}
use Rattle.std.specs.List.{AllZip, join_with_byte, AllByRecursion}
use Rattle.line_io.specs.Numbers.{IsDigit, IsNumber, AreNumbers, HasForm, nearest, printed, value_of, sign_text, signed}
use Rattle.line_io.specs.Scan.{IsNoDigitFirst, separator, StartsWith, LacksNumber}

-- the numbers behind a part that was read, the first of them behind a space where it is separated
abbrev pub Reads : Bool → List ℕ → List ℤ → Type 0
Reads separated rest [] = rest ≡ []
Reads separated rest (number ∷ numbers) =
    (text : List ℕ) × (more : List ℕ) × (rest ≡ separator separated ++ (text ++ more))
    × IsNumber text number × Reads true more numbers

-- texts, each behind a space
abbrev spaced : List (List ℕ) → List ℕ
spaced [] = []
spaced (text ∷ texts) = 32 ∷ (text ++ spaced texts)

joined_spaced : (text : List ℕ) (texts : List (List ℕ))
    → join_with_byte 32 (text ∷ texts) ≡ text ++ spaced texts
joined_spaced text [] = sym (append-nil text)
joined_spaced text (next ∷ texts) =
    ap (λ (bytes : List ℕ). text ++ 32 ∷ bytes) (joined_spaced next texts)

reads_spaced : (texts : List (List ℕ)) (numbers : List ℤ) → AllZip IsNumber texts numbers
    → Reads true (spaced texts) numbers
reads_spaced [] [] each = refl
reads_spaced [] (number ∷ numbers) each = absurd each
reads_spaced (text ∷ texts) [] each = absurd each
reads_spaced (text ∷ texts) (number ∷ numbers) each =
    (text, spaced texts, refl, each.0, reads_spaced texts numbers each.1)

texts_of : (numbers : List ℤ) (rest : List ℕ) → Reads true rest numbers
    → (texts : List (List ℕ)) × AllZip IsNumber texts numbers × (rest ≡ spaced texts)
texts_of [] rest read = ([], tt, read)
texts_of (number ∷ numbers) rest (text, more, spelled, is, read) =
    let tail = texts_of numbers more read in
    (text ∷ tail.0, (is, tail.1), spelled ∙ ap (λ (bytes : List ℕ). 32 ∷ (text ++ bytes)) tail.2)

reads_joined : (texts : List (List ℕ)) (numbers : List ℤ) → AllZip IsNumber texts numbers
    → Reads false (join_with_byte 32 texts) numbers
reads_joined [] [] each = refl
reads_joined [] (number ∷ numbers) each = absurd each
reads_joined (text ∷ texts) [] each = absurd each
reads_joined (text ∷ texts) (number ∷ numbers) each =
    (text, spaced texts, joined_spaced text texts, each.0, reads_spaced texts numbers each.1)

pub reads_of : (content : List ℕ) (numbers : List ℤ) → AreNumbers content numbers
    → Reads false content numbers
reads_of content numbers are =
    subst (λ (bytes : List ℕ). Reads false bytes numbers) (sym are.joined)
    (reads_joined are.texts numbers are.each)

pub are_numbers : (content : List ℕ) (numbers : List ℤ) → Reads false content numbers
    → AreNumbers content numbers
are_numbers content [] read = record { texts = []; each = tt; joined = read }
are_numbers content (number ∷ numbers) (text, more, spelled, is, read) =
    let tail = texts_of numbers more read in
    record {
      texts = text ∷ tail.0;
      each = (is, tail.1);
      joined =
          spelled ∙ ap (λ (bytes : List ℕ). text ++ bytes) tail.2 ∙ sym (joined_spaced text tail.0);
    }

-- where digits end
digits_end : (ds es rest more : List ℕ) → AllByRecursion IsDigit ds → AllByRecursion IsDigit es
    → IsNoDigitFirst rest → IsNoDigitFirst more → ds ++ rest ≡ es ++ more
    → (ds ≡ es) × (rest ≡ more)
digits_end [] [] rest more all all' end end' e = (refl, e)
digits_end [] (y ∷ ys) rest more all all' end end' e = absurd (subst IsNoDigitFirst e end all'.0)
digits_end (x ∷ xs) [] rest more all all' end end' e =
    absurd (subst IsNoDigitFirst (sym e) end' all.0)
digits_end (x ∷ xs) (y ∷ ys) rest more all all' end end' e =
    let tails : xs ++ rest ≡ ys ++ more = cc in
    let heads : x ≡ y = cc in
    let same = digits_end xs ys rest more all.1 all'.1 end end' tails in
    let same_front = same.0 in
    (cc, same.1)

signs_end : (negative negative' : Bool) (ds es rest more : List ℕ) → 0 < length ds → 0 < length es
    → AllByRecursion IsDigit ds → AllByRecursion IsDigit es → IsNoDigitFirst rest
    → IsNoDigitFirst more → (sign_text negative ++ ds) ++ rest ≡ (sign_text negative' ++ es) ++ more
    → (signed negative (value_of ds) ≡ signed negative' (value_of es)) × (rest ≡ more)
signs_end true true ds es rest more some some' all all' end end' e =
    let unsigned : ds ++ rest ≡ es ++ more = cc in
    let same = digits_end ds es rest more all all' end end' unsigned in
    (ap (λ (digits : List ℕ). signed true (value_of digits)) same.0, same.1)
signs_end false false ds es rest more some some' all all' end end' e =
    let same = digits_end ds es rest more all all' end end' e in
    (ap (λ (digits : List ℕ). signed false (value_of digits)) same.0, same.1)
signs_end true false ds [] rest more some some' all all' end end' e = absurd (omega (arith, some'))
signs_end true false ds (y ∷ ys) rest more some some' all all' end end' e =
    let digit = all'.0 in
    let same : 45 ≡ y = cc in
    absurd (omega arith)
signs_end false true [] es rest more some some' all all' end end' e = absurd (omega (arith, some))
signs_end false true (x ∷ xs) es rest more some some' all all' end end' e =
    let digit = all.0 in
    let same : x ≡ 45 = cc in
    absurd (omega arith)

number_ends : (text text' rest more : List ℕ) (z z' : ℤ) → IsNumber text z → IsNumber text' z'
    → IsNoDigitFirst rest → IsNoDigitFirst more → text ++ rest ≡ text' ++ more
    → (z ≡ z') × (rest ≡ more)
number_ends text text' rest more z z' is is' end end' e =
    let whole =
    sym (ap (λ (t : List ℕ). t ++ rest) is.spelled) ∙ e
    ∙ ap (λ (t : List ℕ). t ++ more) is'.spelled in
    let same =
    signs_end is.negative is'.negative is.digits is'.digits rest more is.some_digit
    is'.some_digit (recursion_from_All IsDigit is.digits is.all_digits)
    (recursion_from_All IsDigit is'.digits is'.all_digits) end end' whole in
    (is.stands_for ∙ same.0 ∙ sym is'.stands_for, same.1)

-- behind a number stands a space or nothing
no_digit_next : (numbers : List ℤ) (rest : List ℕ) → Reads true rest numbers → IsNoDigitFirst rest
no_digit_next [] rest read = subst IsNoDigitFirst (sym read) tt
no_digit_next (number ∷ numbers) rest (text, more, spelled, is, read) =
    subst IsNoDigitFirst (sym spelled) (λ digit. omega (arith, digit))

-- where a number is read, something stands
pub something_read : (separated : Bool) (rest text more : List ℕ) (z : ℤ) → IsNumber text z
    → rest ≡ separator separated ++ (text ++ more) → rest ≢ []
something_read separated rest text more z is spelled nothing =
    let parts = length-append (sign_text is.negative) is.digits in
    let text_length = ap length is.spelled in
    let tail = length-append text more in
    let whole = length-append (separator separated) (text ++ more) in
    let lengths = ap length spelled in
    let none = ap length nothing in
    let some = is.some_digit in
    omega arith

one_reading : (separated : Bool) (rest : List ℕ) (ns ms : List ℤ) → Reads separated rest ns
    → Reads separated rest ms → ns ≡ ms
one_reading separated rest [] [] read read' = refl
one_reading separated rest [] (m ∷ ms) read (text, more, spelled, is, tail) =
    absurd (something_read separated rest text more m is spelled read)
one_reading separated rest (n ∷ ns) [] (text, more, spelled, is, tail) read =
    absurd (something_read separated rest text more n is spelled read)
one_reading separated rest (n ∷ ns) (m ∷ ms) (text, more, spelled, is, tail)
    (text', more', spelled', is', tail') =
    let same_text =
    append_cancel_left (separator separated) (text ++ more) (text' ++ more')
    (sym spelled ∙ spelled') in
    let same =
    number_ends text text' more more' n m is is' (no_digit_next ns more tail)
    (no_digit_next ms more' tail') same_text in
    let same_number = same.0 in
    let same_tail =
    one_reading true more' ns ms
    (subst (λ (bytes : List ℕ). Reads true bytes ns) same.1 tail) tail' in
    cc

-- each reading of the content is the numbers so far and a reading of the rest
pub record IsProgress (content rest : List ℕ) (separated : Bool) (numbers : List ℤ) : Type 0 where
  pub onward : (more : List ℤ) → Reads separated rest more → Reads false content (numbers ++ more)
  pub back : (all : List ℤ) → Reads false content all
      → (more : List ℤ) × (all ≡ numbers ++ more) × Reads separated rest more

pub no_progress : (content : List ℕ) → IsProgress content content false []
no_progress content = record { onward = λ more read. read; back = λ all read. (all, refl, read) }

step_back : (separated : Bool) (rest after : List ℕ) (value : ℤ) (plain : Bool)
    → (found : StartsWith separated rest value plain after) → (numbers all more : List ℤ)
    → all ≡ numbers ++ more → Reads separated rest more
    → (next : List ℤ) × (all ≡ (numbers ++ found.exact ∷ []) ++ next) × Reads true after next
step_back separated rest after value plain found numbers all [] e read =
    absurd (something_read separated rest found.text after _ found.number found.spelled read)
step_back separated rest after value plain found numbers all (m ∷ ms) e
    (text, more, spelled, is, tail) =
    let number = found.exact in
    let same_text =
    append_cancel_left (separator separated) (text ++ more) (found.text ++ after)
    (sym spelled ∙ found.spelled) in
    let same =
    number_ends text found.text more after m number is found.number
    (no_digit_next ms more tail) found.ended same_text in (
      ms,
      e ∙ ap (λ (n : ℤ). numbers ++ n ∷ ms) same.0 ∙ sym (append_assoc numbers (number ∷ []) ms),
      subst (λ (bytes : List ℕ). Reads true bytes ms) same.1 tail,
    )

pub more_progress : (content rest after : List ℕ) (separated : Bool) (numbers : List ℤ) (value : ℤ)
    (plain : Bool)
    → IsProgress content rest separated numbers
    → (found : StartsWith separated rest value plain after)
    → IsProgress content after true (numbers ++ found.exact ∷ [])
more_progress content rest after separated numbers value plain p found =
    let number = found.exact in
    record {
      onward =
          λ more read.
          subst (Reads false content) (sym (append_assoc numbers (number ∷ []) more))
          (p.onward (number ∷ more) (found.text, after, found.spelled, found.number, read));
      back =
          λ all read. let b = p.back all read in
          step_back separated rest after value plain found numbers all b.0 b.1 b.2;
    }

stuck_back : (separated : Bool) (rest : List ℕ) → LacksNumber separated rest
    → (numbers all more : List ℤ) → all ≡ numbers ++ more → Reads separated rest more
    → all ≡ numbers
stuck_back separated rest lacks numbers all [] e read = e ∙ append-nil numbers
stuck_back separated rest lacks numbers all (m ∷ ms) e (text, more, spelled, is, tail) =
    absurd (lacks text more m is spelled)

-- where no number comes next, there are no more numbers
pub stuck : (content rest : List ℕ) (separated : Bool) (numbers : List ℤ)
    → IsProgress content rest separated numbers → LacksNumber separated rest → (all : List ℤ)
    → Reads false content all → all ≡ numbers
stuck content rest separated numbers p lacks all read =
    let b = p.back all read in
    stuck_back separated rest lacks numbers all b.0 b.1 b.2

-- where something is left, there are more numbers
pub more_left : (content rest : List ℕ) (separated : Bool) (numbers : List ℤ)
    → IsProgress content rest separated numbers → rest ≢ [] → (all : List ℤ)
    → Reads false content all → length all ≢ length numbers
more_left content rest separated numbers p some all read count =
    let b = p.back all read in
    let lengths = ap length b.1 in
    let parts = length-append numbers b.0 in
    let none : b.0 ≡ [] = nil_from_length b.0 (omega arith) in
    some (subst (Reads separated rest) none b.2)

-- where nothing is left, the numbers are those of the content
pub all_read : (content rest : List ℕ) (separated : Bool) (numbers : List ℤ)
    → IsProgress content rest separated numbers → rest ≡ [] → Reads false content numbers
all_read content rest separated numbers p nothing =
    subst (Reads false content) (append-nil numbers) (p.onward [] nothing)

no_digit_at : (xs : List ℕ) (n : ℕ) → (n < length xs → IsDigit (get_or xs n 0) → ⊥)
    → IsNoDigitFirst (drop n xs)
no_digit_at [] zero h = tt
no_digit_at [] (suc n) h = tt
no_digit_at (x ∷ xs) zero h = h (omega arith)
no_digit_at (x ∷ xs) (suc n) h = no_digit_at xs n (λ below. h (omega arith))

-- a magnitude past the cap is as far from an `i32` as the cap
capped : (negative : Bool) (magnitude : ℕ)
    → nearest (signed negative (min magnitude 2147483648)) ≡ nearest (signed negative magnitude)
capped false magnitude = ap pos (omega arith)
capped true zero = refl
capped true (suc n) = elim (cases_lt (suc n) 2147483648) [
  | inl small ↦ let same : min (suc n) 2147483648 ≡ suc n = omega arith in rw same refl
  | inr large ↦
      let same : min (suc n) 2147483648 ≡ 2147483648 = omega arith in
      let end : 2147483647 ≡ min n 2147483647 = omega arith in
      rw same (ap negsuc end)
]

-- digits with no zero before others, and none behind a sign, are what is printed of their number
printed_text : (negative : Bool) (digits : List ℕ) → 0 < length digits → All IsDigit digits
    → (get_or digits 0 0 ≡ 48 → (negative ≡ false) × (length digits ≡ 1))
    → value_of digits < 2147483648
    → sign_text negative ++ digits ≡ signed_decimal (nearest (signed negative (value_of digits)))
printed_text negative digits some all plain small =
    let is : digits ≡ decimal (value_of digits) =
    (one_text digits (value_of digits) (omega arith)).0 (record {
      some_digit = some;
      all_digits = all;
      no_leading_zero = λ zero. (plain zero).1;
      stands_for = refl;
    }) in
    go negative (value_of digits) small is plain
  where
    go : (negative : Bool) (n : ℕ) → n < 2147483648 → digits ≡ decimal n
        → (get_or digits 0 0 ≡ 48 → (negative ≡ false) × (length digits ≡ 1))
        → sign_text negative ++ digits ≡ signed_decimal (nearest (signed negative n))
    go false n small is plain = let same : min n 2147483647 ≡ n = omega arith in rw same is
    go true zero small is plain =
        absurd (false≢true (sym (plain (ap (λ (ds : List ℕ). get_or ds 0 0) is
        ∙ ap (λ (ds : List ℕ). get_or ds 0 0) (decimal_digit 0 (omega arith)))).0))
    go true (suc n) small is plain =
        let same : min n 2147483647 ≡ n = omega arith in rw same (ap (λ (ds : List ℕ). 45 ∷ ds) is)

-- a sign and as many digits as there are
pub number_found : (bytes unsigned : List ℕ) (negative : Bool) (count magnitude : ℕ) (value : ℤ)
    (is_printed : Bool)
    → bytes ≡ sign_text negative ++ unsigned → count ≤ length unsigned → count ≢ 0
    → All IsDigit (take count unsigned)
    → (count < length unsigned → IsDigit (get_or unsigned count 0) → ⊥)
    → magnitude ≡ min (value_of (take count unsigned)) 2147483648
    → value ≡ nearest (signed negative magnitude)
    → (IsTrue is_printed → (magnitude < 2147483648) × (get_or (take count unsigned) 0 0 ≡ 48
    → (negative ≡ false) × (length (take count unsigned) ≡ 1)))
    → StartsWith false bytes value is_printed (drop count unsigned)
number_found bytes unsigned negative count magnitude value is_printed spelled fits some all end
    is_magnitude is_value plain =
    let digits = take count unsigned in
    let some_digit : 0 < length digits = rw length-take-le (omega arith) in
    let brought : value ≡ nearest (signed negative (value_of digits)) =
    is_value ∙ ap (λ (n : ℕ). nearest (signed negative n)) is_magnitude
    ∙ capped negative (value_of digits) in
    record {
      text = sign_text negative ++ digits;
      exact = signed negative (value_of digits);
      spelled =
          spelled
          ∙ ap (λ (tail : List ℕ). sign_text negative ++ tail)
          (sym (take-append-drop count unsigned))
          ∙ sym (append_assoc (sign_text negative) digits (drop count unsigned));
      number =
          record {
            negative = negative;
            digits = digits;
            spelled = refl;
            some_digit = some_digit;
            all_digits = all;
            stands_for = refl;
          };
      brought = brought;
      printed =
          λ h. let p = plain h in
          printed_text negative digits some_digit all p.1 (omega (arith, p.0, is_magnitude))
          ∙ ap signed_decimal (sym brought);
      ended = no_digit_at unsigned count end;
    }

-- one more number is printed behind the others
spaced_push : (s : ℤ → List ℕ) (xs : List ℤ) (y : ℤ)
    → spaced (map s (xs ++ y ∷ [])) ≡ spaced (map s xs) ++ 32 ∷ s y
spaced_push s [] y = ap (λ (t : List ℕ). 32 ∷ t) (append-nil (s y))
spaced_push s (x ∷ xs) y =
    ap (λ (t : List ℕ). 32 ∷ (s x ++ t)) (spaced_push s xs y)
    ∙ ap (λ (t : List ℕ). 32 ∷ t) (sym (append_assoc (s x) (spaced (map s xs)) (32 ∷ s y)))

joined_push : (s : ℤ → List ℕ) (xs : List ℤ) (y : ℤ)
    → join_with_byte 32 (map s (xs ++ y ∷ []))
    ≡ join_with_byte 32 (map s xs) ++ (separator (nat_lt 0 (length xs)) ++ s y)
joined_push s [] y = refl
joined_push s (x ∷ xs) y =
    let some : nat_lt 0 (length (x ∷ xs)) ≡ true = grind (arith, nat_tests) in
    rw some (
    joined_spaced (s x) (map s (xs ++ y ∷ []))
    ∙ ap (λ (t : List ℕ). s x ++ t) (spaced_push s xs y)
    ∙ sym (append_assoc (s x) (spaced (map s xs)) (32 ∷ s y))
    ∙ ap (λ (t : List ℕ). t ++ 32 ∷ s y) (sym (joined_spaced (s x) (map s xs)))
    )

-- what the loop over the numbers keeps: the numbers read, stored as the nearest `i32`s, and whether
-- they stand there as printed
pub record IsSoFar (content rest : List ℕ) (values : List ℤ) (is_printed : Bool)
    (count : ℕ) : Type 0 where
  pub read : List ℤ
  pub counted : length read ≡ count
  pub progress : IsProgress content rest (nat_lt 0 count) read
  pub stored : take count values ≡ map nearest read
  pub front : IsTrue is_printed → content ≡ printed (take count values) ++ rest

pub none_so_far : (content : List ℕ) (values : List ℤ) → IsSoFar content content values true 0
none_so_far content values =
    record {
      read = [];
      counted = refl;
      progress = no_progress content;
      stored = refl;
      front = λ _. refl;
    }

separated_next : (count : ℕ) → true ≡ nat_lt 0 (count + 1)
separated_next count = grind (arith, nat_tests)

-- one more number is stored
pub more_so_far : (content rest after : List ℕ) (values : List ℤ) (is_printed plain both : Bool)
    (count : ℕ) (value : ℤ)
    → IsSoFar content rest values is_printed count
    → StartsWith (nat_lt 0 count) rest value plain after → count < length values
    → (IsTrue both → IsTrue is_printed × IsTrue plain)
    → IsSoFar content after (set values count value) both (count + 1)
more_so_far content rest after values is_printed plain both count value so_far found below each =
    let counted = so_far.counted in
    let values_are = take_more_set values count value below in
    let taken : length (take count values) ≡ count = length-take-le count values (omega arith) in
    record {
      read = so_far.read ++ found.exact ∷ [];
      counted = length_push so_far.read found.exact ∙ ap (λ (n : ℕ). n + 1) counted;
      progress =
          subst (λ (b : Bool). IsProgress content after b (so_far.read ++ found.exact ∷ []))
          (separated_next count)
          (more_progress content rest after
          (nat_lt 0 count) so_far.read value plain so_far.progress found);
      stored =
          values_are ∙ ap (λ (xs : List ℤ). xs ++ value ∷ []) so_far.stored
          ∙ ap (λ (x : ℤ). map nearest so_far.read ++ x ∷ []) found.brought
          ∙ sym (map_push nearest so_far.read found.exact);
      front = λ h.
          let told = each h in
          so_far.front told.0
          ∙ ap (λ (r : List ℕ). printed (take count values) ++ r)
          (found.spelled ∙ ap (λ (t : List ℕ). separator (nat_lt 0 count) ++ (t ++ after))
          (found.printed told.1) ∙ sym
          (append_assoc (separator (nat_lt 0 count)) (signed_decimal value) after))
          ∙ sym (append_assoc (printed (take count values))
          (separator (nat_lt 0 count) ++ signed_decimal value) after)
          ∙ ap (λ (t : List ℕ). t ++ after)
          (ap (λ (n : ℕ). printed (take count values) ++ (separator (nat_lt 0 n) ++ signed_decimal value))
          (sym taken)
          ∙ sym (joined_push signed_decimal (take count values) value)
          ∙ ap printed (sym values_are));
    }

-- where no number comes next before enough were read, the content hasn't the form
pub no_more_numbers : (content rest : List ℕ) (values : List ℤ) (is_printed : Bool)
    (count asked : ℕ)
    → IsSoFar content rest values is_printed count → LacksNumber (nat_lt 0 count) rest
    → count < asked → (numbers : List ℤ) → HasForm asked content numbers → ⊥
no_more_numbers content rest values is_printed count asked so_far lacks below numbers form =
    let same =
    ap length (stuck content rest (nat_lt 0 count) so_far.read so_far.progress lacks numbers
    (reads_of content numbers form.read)) in
    let counted = so_far.counted in
    let asked_is = form.counted in
    omega arith

-- nor where something is left behind them
pub something_left : (content rest : List ℕ) (values : List ℤ) (is_printed : Bool) (count asked : ℕ)
    → IsSoFar content rest values is_printed count → count ≡ asked → rest ≢ [] → (numbers : List ℤ)
    → HasForm asked content numbers → ⊥
something_left content rest values is_printed count asked so_far all some numbers form =
    more_left content rest (nat_lt 0 count) so_far.read so_far.progress some numbers
    (reads_of content numbers form.read) (form.counted ∙ sym all ∙ sym so_far.counted)

-- where nothing is left, the content has the form
pub nothing_left : (content rest : List ℕ) (values : List ℤ) (is_printed : Bool) (count asked : ℕ)
    → (so_far : IsSoFar content rest values is_printed count) → count ≡ asked → length content ≤ 64
    → rest ≡ [] → HasForm asked content so_far.read
nothing_left content rest values is_printed count asked so_far all short nothing = record {
  short = short;
  counted = so_far.counted ∙ all;
  read =
      are_numbers content so_far.read
      (all_read content rest (nat_lt 0 count) so_far.read so_far.progress nothing);
}

-- all values are stored, and printed they are the content
pub all_stored : (content rest : List ℕ) (values : List ℤ) (is_printed : Bool) (count asked : ℕ)
    → (so_far : IsSoFar content rest values is_printed count) → count ≡ asked
    → length values ≡ asked → rest ≡ []
    → (values ≡ map nearest so_far.read) × (IsTrue is_printed → content ≡ printed values)
all_stored content rest values is_printed count asked so_far all sized nothing =
    let whole : take count values ≡ values = take_all count values (omega arith) in (
      sym whole ∙ so_far.stored,
      λ h.
          so_far.front h ∙ ap (λ (r : List ℕ). printed (take count values) ++ r) nothing
          ∙ append-nil _ ∙ ap printed whole,
    )

pub weaker : {X : Type 0} (o : Option X) {P P' : Type 0} {Q Q' : X → Type 0} → MatchOption o P Q
    → (P → P') → ((x : X) → Q x → Q' x) → MatchOption o P' Q'
weaker None h p q = p h
weaker (Some x) h p q = q x h

-- what a number behind a space is
pub behind_space : (bytes rest : List ℕ) (value : ℤ) (is_printed : Bool) (after : List ℕ)
    → bytes ≡ 32 ∷ rest → StartsWith false rest value is_printed after
    → StartsWith true bytes value is_printed after
behind_space bytes rest value is_printed after e found = record {
  text = found.text;
  exact = found.exact;
  spelled = e ∙ ap (λ (tail : List ℕ). 32 ∷ tail) found.spelled;
  number = found.number;
  brought = found.brought;
  printed = found.printed;
  ended = found.ended;
}

pub none_behind_space : (bytes rest : List ℕ) → bytes ≡ 32 ∷ rest → LacksNumber false rest
    → LacksNumber true bytes
none_behind_space bytes rest e lacks text more number is spelled =
    let same : rest ≡ text ++ more = cc in
    lacks text more number is same

-- a content is read in one way at most
pub one_content : (content : List ℕ) (numbers others : List ℤ) → AreNumbers content numbers
    → AreNumbers content others → numbers ≡ others
one_content content numbers others are are' =
    one_reading false content numbers others (reads_of content numbers are)
    (reads_of content others are')
