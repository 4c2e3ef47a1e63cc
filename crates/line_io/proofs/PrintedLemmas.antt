-- Numbers as they are printed are one line of an input, which is its own content and is read as these numbers.
use Rattle.std.proofs.Common.{◌≡◌, ◌≢◌, ℕ, ◌-◌, ◌≤◌, ℤ, inl, inr, Bool, true, false, List, [], ◌∷◌, ◌++◌, length, map, get_or, refl, sym, subst, ◌∙◌, arith, w64}
use Rattle.std.proofs.lemmas.Bool.Decides.{eqb_tells}
use Rattle.std.proofs.lemmas.List.{append-nil}
use Rattle.std.proofs.lemmas.List.Elements.{All-append, All-cons, All-nil, All-weaker}
use Rattle.std.specs.Fmt.{signed_decimal}
use Rattle.std.specs.Int.RustNames.{FitsSigned}
use Rattle.std.specs.List.{All, AllByRecursion, AllZip}
use Rattle.line_io.specs.Lines.{content, lines}
use Rattle.line_io.specs.Numbers.{AreNumbers, IsDigit, IsNumber, printed, sign_text}
use Rattle.line_io.proofs.LinesLemmas.{Unbroken, lines_only}
use Rattle.line_io.proofs.TextLemmas.{printed_is_read}

-- a space, or a byte above it
abbrev IsVisible : ℕ → Type 0
IsVisible byte = 32 ≤ byte

abbrev AreFitting : List ℤ → Type 0
AreFitting numbers = AllByRecursion (FitsSigned w64) numbers

with_sign : (negative : Bool) (digits : List ℕ) → All IsDigit digits → All IsVisible (sign_text negative ++ digits)
with_sign false digits all = All-weaker IsDigit IsVisible (λ byte is. omega (arith, is.0)) digits all
with_sign true digits all = All-cons IsVisible 45 digits (omega arith) (All-weaker IsDigit IsVisible (λ byte is. omega (arith, is.0)) digits all)

visible_number : (number : ℤ) → FitsSigned w64 number → All IsVisible (signed_decimal number)
visible_number number fits =
    let is = printed_is_read number fits in
    subst (All IsVisible) (sym is.spelled) (with_sign is.negative is.digits is.all_digits)

visible : (numbers : List ℤ) → AreFitting numbers → All IsVisible (printed numbers)
visible [] all = All-nil IsVisible
visible (x ∷ []) all = visible_number x all.0
visible (x ∷ y ∷ numbers) all =
    All-append IsVisible (signed_decimal x) (32 ∷ printed (y ∷ numbers)) (visible_number x all.0)
    (All-cons IsVisible 32 (printed (y ∷ numbers)) (omega arith) (visible (y ∷ numbers) all.1))

each_read : (numbers : List ℤ) → AreFitting numbers → AllZip IsNumber (map signed_decimal numbers) numbers
each_read [] all = tt
each_read (x ∷ numbers) all = (printed_is_read x all.0, each_read numbers all.1)

own_content : (line : List ℕ) → All IsVisible line → content line ≡ line
own_content [] all = refl
own_content (b ∷ line) all =
    let last = length (b ∷ line) - 1 in
    elim (eqb_tells (get_or (b ∷ line) last 0) 13) [
      | inl w ↦ absurd (omega (arith, w.1, all last 0 (omega arith)))
      | inr w ↦ rw w.0 refl
    ]

pub printed_content : (numbers : List ℤ) → AreFitting numbers → content (printed numbers) ≡ printed numbers
printed_content numbers all = own_content (printed numbers) (visible numbers all)

pub printed_are_read : (numbers : List ℤ) → AreFitting numbers → AreNumbers (printed numbers) numbers
printed_are_read numbers all = record { texts = map signed_decimal numbers; each = each_read numbers all; joined = refl }

pub printed_lines : (numbers : List ℤ) → AreFitting numbers → lines (printed numbers ++ 10 ∷ []) ≡ printed numbers ∷ []
printed_lines numbers all =
    let unbroken = All-weaker IsVisible (λ b. b ≢ 10) (λ byte is same. omega (arith, is, same)) (printed numbers) (visible numbers all) in
    sym (lines_only (printed numbers ++ 10 ∷ []) (printed numbers ∷ []) (record {
      ended = printed numbers ∷ [];
      last = [];
      joined = append-nil _ ∙ append-nil _;
      unbroken = All-cons Unbroken (printed numbers) [] unbroken (All-nil Unbroken);
      last_unbroken = All-nil (λ b. b ≢ 10);
      parts_are = refl;
    }))
