-- That the lines of a listing are lines.
use Rattle.std.proofs.Common.{◌≡◌, ◌≢◌, ℕ, ◌+◌, ◌/◌, ◌%◌, ◌^◌, ◌<◌, ℤ, pos, negsuc, suc, Bool, true, not, ◌==◌, ◌&&◌, List, [], ◌∷◌, ◌++◌, length, All, refl, sym, ap, ◌∙◌, subst, arith, codes, w8}
use Rattle.std.proofs.lemmas.Bool.{and_parts}
use Rattle.std.proofs.lemmas.Bool.Decides.{nat_tests}
use Rattle.std.proofs.lemmas.List.{append_assoc, append-nil}
use Rattle.std.proofs.lemmas.List.Elements.{All-append, All-cons, All-nil, All-weaker}
use Rattle.std.specs.Fmt.{decimal, signed_decimal}
use Rattle.std.specs.Int.RustNames.{FitsSigned}
use Rattle.std.specs.List.{AllByRecursion}
use Rattle.demo_lump.specs.declared.command.Command.{Command}
use Rattle.demo_lump.specs.declared.header.Header.{Header}
use Rattle.le_rec.proofs.BytesLemmas.{AreBytes-tail}
use Rattle.le_rec.specs.Bytes.{AreBytes}
use Rattle.le_rec.specs.Name.{hex_digit}
use Rattle.line_io.specs.Numbers.{IsDigit}
use Rattle.demo_engines.specs.Assembly.{AreLines, IsLine}
use Rattle.demo_engines.specs.Parts.{FitsCommand, FitsHeader, command_fields, fields, numbers_of}
use Rattle.demo_engines.specs.Assembly.AreLines.{more}
use Rattle.look_engines.specs.Listing.{header_line, hex_byte, ticcmd_line, ticcmds_text, totals_line}
use Rattle.look_engines.specs.Turn.{player_of, tic_of}
use Rattle.demo_engines.proofs.HeaderLineLemmas.{header_fields, labels}
use Rattle.demo_engines.proofs.ListingLemmas.{line_fields}
use Rattle.demo_engines.proofs.RunLemmas.{decimal_is}

abbrev IsNoEnd : ℕ → Type 0
IsNoEnd byte = byte ≢ 10

-- a text without byte 10, by a test
abbrev is_unbroken : List ℕ → Bool
is_unbroken [] = true
is_unbroken (b ∷ text) = not (b == 10) && is_unbroken text

no_end : (b : ℕ) → not (b == 10) ≡ true → IsNoEnd b
no_end b is same = grind (arith, nat_tests)

by_test : (text : List ℕ) → is_unbroken text ≡ true → All IsNoEnd text
by_test [] is = All-nil IsNoEnd
by_test (b ∷ text) is =
    let parts = and_parts (not (b == 10)) (is_unbroken text) is in
    All-cons IsNoEnd b text (no_end b parts.0) (by_test text parts.1)

in_number : (n : ℕ) → n < 2 ^ 64 → All IsNoEnd (decimal n)
in_number n small = All-weaker IsDigit IsNoEnd (λ byte is same. omega (arith, is.0, same)) (decimal n) (decimal_is n small).all_digits

in_signed : (z : ℤ) → FitsSigned w8 z → All IsNoEnd (signed_decimal z)
in_signed (pos n) fits = let bound = fits.sfits in in_number n (omega arith)
in_signed (negsuc n) fits =
    let bound = fits.sfits in
    All-cons IsNoEnd 45 (decimal (suc n)) (λ same. omega (arith, same)) (in_number (suc n) (omega arith))

hex_no_end : (d : ℕ) → IsNoEnd (hex_digit d)
hex_no_end d same = grind (arith, nat_tests)

-- a number and more, and the space before more
with_number : (n : ℕ) (text : List ℕ) → n < 2 ^ 64 → All IsNoEnd text → All IsNoEnd (decimal n ++ text)
with_number n text small all = All-append IsNoEnd (decimal n) text (in_number n small) all

with_space : (text : List ℕ) → All IsNoEnd text → All IsNoEnd (32 ∷ text)
with_space text all = All-cons IsNoEnd 32 text (λ same. omega (arith, same)) all

in_hex : (b : ℕ) → All IsNoEnd (hex_byte b ++ [])
in_hex b = All-cons IsNoEnd (hex_digit (b / 16)) (hex_digit (b % 16) ∷ []) (hex_no_end (b / 16)) (All-cons IsNoEnd (hex_digit (b % 16)) [] (hex_no_end (b % 16)) (All-nil IsNoEnd))

fields_end : (c : Command) → command_fields c (10 ∷ []) ≡ command_fields c [] ++ 10 ∷ []
fields_end c = simp append_assoc

pub ticcmd_is_line : {version : ℕ} (tic player : ℕ) (c : Command) → tic < 2 ^ 64 → player < 2 ^ 64 → FitsCommand version c → IsLine (ticcmd_line tic player c)
ticcmd_is_line tic player c small_tic small_player fits =
    let turn = fits.turn in
    record {
      content = decimal tic ++ (32 ∷ (decimal player ++ (32 ∷ command_fields c [])));
      unbroken = with_number tic _ small_tic (with_space _ (with_number player _ small_player (with_space _
          (All-append IsNoEnd (signed_decimal c.forward) _ (in_signed c.forward fits.forward) (with_space _
          (All-append IsNoEnd (signed_decimal c.side) _ (in_signed c.side fits.side) (with_space _
          (with_number c.turn _ (omega arith) (with_space (hex_byte c.buttons ++ []) (in_hex c.buttons))))))))));
      is = sym (append-nil (ticcmd_line tic player c)) ∙ line_fields tic player c [] ∙ simp append_assoc;
    }

-- the header's line
fields_back : (ls : List (List ℕ)) (ns end : List ℕ) → length ns ≡ length ls → fields ls ns end ≡ fields ls ns [] ++ end
fields_back [] ns end long = refl
fields_back (l ∷ ls) [] end long = absurd (omega (arith, long))
fields_back (l ∷ ls) (n ∷ ns) end long =
    ap (λ t. l ++ (decimal n ++ t)) (fields_back ls ns end (omega (arith, long)))
    ∙ ap (λ t. l ++ t) (sym (append_assoc (decimal n) (fields ls ns []) end))
    ∙ sym (append_assoc l (decimal n ++ fields ls ns []) end)

in_fields : (ls : List (List ℕ)) (ns : List ℕ) → AllByRecursion (λ l. is_unbroken l ≡ true) ls → AreBytes ns → All IsNoEnd (fields ls ns [])
in_fields [] ns are small = All-nil IsNoEnd
in_fields (l ∷ ls) [] are small = All-nil IsNoEnd
in_fields (l ∷ ls) (n ∷ ns) are small =
    let here : n < 256 = small.each 0 in
    All-append IsNoEnd l _ (by_test l are.0) (with_number n _ (omega arith) (in_fields ls ns are.1 (AreBytes-tail n ns small)))

pub header_is_line : (h : Header) → FitsHeader h → IsLine (header_line h)
header_is_line h fits = record {
  content = fields labels (numbers_of h) [];
  unbroken = in_fields labels (numbers_of h) (refl, (refl, (refl, (refl, (refl, (refl, (refl, (refl, (refl, (refl, (refl, (refl, (refl, tt))))))))))))) fits.numbers;
  is = sym (append-nil (header_line h)) ∙ header_fields h [] ∙ fields_back labels (numbers_of h) (10 ∷ []) refl;
}

-- the totals' line
pub totals_is_line : (tics odd after : ℕ) → tics < 2 ^ 64 → odd < 2 ^ 64 → after < 2 ^ 64 → IsLine (totals_line tics odd after)
unfolding totals_line
totals_is_line tics odd after small_tics small_odd small_after = record {
  content = codes "tics " ++ (decimal tics ++ (codes " odd " ++ (decimal odd ++ (codes " after " ++ (decimal after ++ [])))));
  unbroken = All-append IsNoEnd (codes "tics ") _ (by_test (codes "tics ") refl) (with_number tics _ small_tics
      (All-append IsNoEnd (codes " odd ") _ (by_test (codes " odd ") refl) (with_number odd _ small_odd
      (All-append IsNoEnd (codes " after ") _ (by_test (codes " after ") refl) (with_number after _ small_after (All-nil IsNoEnd))))));
  is = simp append_assoc;
}

-- the lines of commands behind others
pub lines_of : (version : ℕ) (players : List ℕ) (i n : ℕ) (before : List ℕ) (commands : List Command) → AllByRecursion (FitsCommand version) commands → i + length commands < 2 ^ 64
    → ((k : ℕ) → k < 2 ^ 64 → (tic_of players k < 2 ^ 64) × (player_of players k < 2 ^ 64))
    → AreLines n before → AreLines (n + length commands) (before ++ ticcmds_text players i commands)
lines_of version players i n before [] fits few turns are = subst (λ t. AreLines (n + 0) t) (sym (append-nil before)) (subst (λ k. AreLines k before) (omega arith) are)
lines_of version players i n before (c ∷ commands) fits few turns are =
    let here = turns i (omega (arith, few)) in
    let line = ticcmd_line (tic_of players i) (player_of players i) c in
    let longer = more n before line are (ticcmd_is_line (tic_of players i) (player_of players i) c here.0 here.1 fits.0) in
    let rest = lines_of version players (i + 1) (n + 1) (before ++ line) commands fits.1 (omega (arith, few)) turns longer in
    let count : n + 1 + length commands ≡ n + length (c ∷ commands) = omega arith in
    subst (λ t. AreLines (n + length (c ∷ commands)) t) (append_assoc before line (ticcmds_text players (i + 1) commands))
    (subst (λ k. AreLines k ((before ++ line) ++ ticcmds_text players (i + 1) commands)) count rest)
