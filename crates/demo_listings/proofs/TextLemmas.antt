-- Texts of numbers and of commands, from a place on.
use Rattle.std.proofs.Common.{◌≡◌, ℕ, ◌+◌, ◌<◌, List, [], ◌∷◌, ◌++◌, codes, get_or, drop, length, refl, ap, ◌∙◌, arith}
use Rattle.std.proofs.lemmas.List.{append_assoc}
use Rattle.std.proofs.lemmas.Option.{slice_get-get_or}
use Rattle.std.specs.Fmt.{decimal}
use Rattle.later_demos.specs.declared.command.LaterCommand.{LaterCommand}
use Rattle.line_io.proofs.RestLemmas.{drop-at}
use Rattle.look_engines.specs.Turn.{player_of, tic_of}
use Rattle.demo_listings.specs.Listing.{command_line, commands_text, numbers_text}

-- bytes from a place on: that at the place, and those behind it
pub numbers-drop : (bytes : List ℕ) (i : ℕ) (more : List ℕ) → i < length bytes
    → numbers_text (drop i bytes) ++ more ≡ codes " " ++ (decimal (get_or bytes i 0) ++ (numbers_text (drop (i + 1) bytes) ++ more))
numbers-drop bytes i more below =
    let byte = get_or bytes i 0 in
    let behind = numbers_text (drop (i + 1) bytes) in
    ap (λ (b : List ℕ). numbers_text b ++ more) (drop-at bytes i byte (slice_get-get_or bytes i 0 below))
    ∙ append_assoc (codes " " ++ decimal byte) behind more
    ∙ append_assoc (codes " ") (decimal byte) (behind ++ more)

-- commands of which the first is known
pub commands-cons : (players : List ℕ) (i : ℕ) (c : LaterCommand) (left commands : List LaterCommand) → left ≡ c ∷ commands
    → commands_text players i left ≡ command_line (tic_of players i) (player_of players i) c ++ commands_text players (i + 1) commands
commands-cons players i c left commands is = ap (commands_text players i) is

-- no command is left
pub none_left : (left : List LaterCommand) → length left ≡ 0 → left ≡ []
none_left [] is = refl
none_left (c ∷ left) is = absurd (omega (arith, is))
