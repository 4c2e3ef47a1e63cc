-- What a listing's lines tell, and that they tell it of one demo alone.
use Rattle.std.proofs.Common.{◌≡◌, ℕ, ◌/◌, ◌%◌, ◌<◌, ◌≤◌, List, [], ◌∷◌, ◌++◌, length, sym, ap, ◌∙◌, arith, length-append}
use Rattle.std.proofs.lemmas.Bool.Decides.{nat_tests}
use Rattle.std.proofs.lemmas.List.{append_assoc, append_cancel_left}
use Rattle.std.specs.Fmt.{decimal, signed_decimal}
use Rattle.demo_lump.proofs.WritingLemmas.{same_command}
use Rattle.demo_lump.specs.declared.command.Command.{Command}
use Rattle.le_rec.specs.Name.{hex_digit}
use Rattle.line_io.specs.Numbers.{IsDigit}
use Rattle.demo_listings.specs.CommandText.{ticcmd_text}
use Rattle.demo_engines.specs.Parts.{FitsCommand, Stops, command_fields, front_of, totals_front}
use Rattle.demo_engines.specs.Parts.Stops.{other}
use Rattle.look_engines.specs.Listing.{hex_byte, ticcmd_line, totals_line}
use Rattle.demo_engines.proofs.RunLemmas.{same_number, same_signed}

-- the texts that follow numbers
pub space_stops : (text : List ℕ) → Stops IsDigit (32 ∷ text)
space_stops text = other 32 text (λ is. omega (arith, is.0))

pub end_stops : (text : List ℕ) → Stops IsDigit (10 ∷ text)
end_stops text = other 10 text (λ is. omega (arith, is.0))

pub hex_digit_back : (a b : ℕ) → a < 16 → b < 16 → hex_digit a ≡ hex_digit b → a ≡ b
hex_digit_back a b small_a small_b same = grind (arith, nat_tests)

same_hex : (a b : ℕ) (x y : List ℕ) → a < 256 → b < 256 → hex_byte a ++ x ≡ hex_byte b ++ y → (a ≡ b) × (x ≡ y)
same_hex a b x y small_a small_b same =
    let first : hex_digit (a / 16) ≡ hex_digit (b / 16) = cc in
    let second : hex_digit (a % 16) ≡ hex_digit (b % 16) = cc in
    let later : x ≡ y = cc in
    let high = hex_digit_back (a / 16) (b / 16) (omega arith) (omega arith) first in
    let low = hex_digit_back (a % 16) (b % 16) (omega arith) (omega arith) second in
    (omega (arith, high, low), later)

behind_space : (x y : List ℕ) → 32 ∷ x ≡ 32 ∷ y → x ≡ y
behind_space x y same = cc

pub same_fields : {version : ℕ} (c d : Command) (x y : List ℕ) → FitsCommand version c → FitsCommand version d → command_fields c x ≡ command_fields d y → (c ≡ d) × (x ≡ y)
same_fields c d x y of_c of_d same =
    let forward = same_signed c.forward d.forward _ _ of_c.forward of_d.forward (space_stops _) (space_stops _) same in
    let side = same_signed c.side d.side _ _ of_c.side of_d.side (space_stops _) (space_stops _) (behind_space _ _ forward.1) in
    let turn_c = of_c.turn in
    let turn_d = of_d.turn in
    let turn = same_number c.turn d.turn _ _ (omega arith) (omega arith) (space_stops _) (space_stops _) (behind_space _ _ side.1) in
    let buttons = same_hex c.buttons d.buttons x y of_c.buttons of_d.buttons (behind_space _ _ turn.1) in
    (same_command c d forward.0 side.0 turn.0 buttons.0, buttons.1)

-- the line, from its fields
pub line_fields : (tic player : ℕ) (c : Command) (x : List ℕ)
    → ticcmd_line tic player c ++ x ≡ decimal tic ++ (32 ∷ (decimal player ++ (32 ∷ command_fields c (10 ∷ x))))
unfolding ticcmd_line
line_fields tic player c x = simp append_assoc

pub same_line : {version : ℕ} (tic player : ℕ) (c d : Command) (x y : List ℕ) → FitsCommand version c → FitsCommand version d → ticcmd_line tic player c ++ x ≡ ticcmd_line tic player d ++ y → (c ≡ d) × (x ≡ y)
same_line tic player c d x y of_c of_d same =
    let fields = sym (line_fields tic player c x) ∙ same ∙ line_fields tic player d y in
    let one = append_cancel_left (decimal tic) _ _ fields in
    let two = append_cancel_left (decimal player) _ _ (behind_space _ _ one) in
    let is = same_fields c d (10 ∷ x) (10 ∷ y) of_c of_d (behind_space _ _ two) in
    let is_rest = is.1 in
    (is.0, cc)

-- the fields as they are printed
pub printed_fields : (c : Command) (rest : List ℕ) → (ticcmd_text c ++ 10 ∷ []) ++ rest ≡ command_fields c (10 ∷ rest)
printed_fields c rest = simp append_assoc

pub line_from_front : (tic player : ℕ) (c : Command) (rest : List ℕ) → ticcmd_line tic player c ++ rest ≡ front_of tic player ++ command_fields c (10 ∷ rest)
line_from_front tic player c rest = line_fields tic player c rest ∙ sym (spread (command_fields c (10 ∷ rest)))
  where
    spread : (x : List ℕ) → front_of tic player ++ x ≡ decimal tic ++ (32 ∷ (decimal player ++ (32 ∷ x)))
    spread x = simp append_assoc

pub totals_from_front : (tics odd after : ℕ) (rest : List ℕ) → totals_line tics odd after ++ rest ≡ totals_front tics odd ++ (decimal after ++ 10 ∷ rest)
unfolding totals_line
totals_from_front tics odd after rest = simp append_assoc

-- what was taken, part by part
pub line_taken : (text front behind rest : List ℕ) (tic player : ℕ) (c : Command) → front ≡ front_of tic player → text ≡ front ++ behind → behind ≡ command_fields c (10 ∷ rest)
    → text ≡ ticcmd_line tic player c ++ rest
line_taken text front behind rest tic player c is splits goes =
    splits ∙ ap (λ t. t ++ behind) is ∙ ap (λ t. front_of tic player ++ t) goes ∙ sym (line_from_front tic player c rest)

pub totals_taken : (text front behind rest : List ℕ) (tics odd after : ℕ) → front ≡ totals_front tics odd → text ≡ front ++ behind → behind ≡ decimal after ++ 10 ∷ rest
    → text ≡ totals_line tics odd after ++ rest
totals_taken text front behind rest tics odd after is splits goes =
    splits ∙ ap (λ t. t ++ behind) is ∙ ap (λ t. totals_front tics odd ++ t) goes ∙ sym (totals_from_front tics odd after rest)

-- a line has four bytes and more
pub line_long : (tic player : ℕ) (c : Command) → 4 ≤ length (ticcmd_line tic player c)
line_long tic player c =
    let whole = ap length (line_fields tic player c []) in
    omega (
      arith,
      whole,
      length-append (ticcmd_line tic player c) [],
      length-append (decimal tic) (32 ∷ (decimal player ++ (32 ∷ command_fields c (10 ∷ [])))),
      length-append (decimal player) (32 ∷ command_fields c (10 ∷ [])),
      length-append (signed_decimal c.forward) (32 ∷ (signed_decimal c.side ++ (32 ∷ (decimal c.turn ++ (32 ∷ (hex_byte c.buttons ++ 10 ∷ [])))))),
      length-append (signed_decimal c.side) (32 ∷ (decimal c.turn ++ (32 ∷ (hex_byte c.buttons ++ 10 ∷ [])))),
    )
