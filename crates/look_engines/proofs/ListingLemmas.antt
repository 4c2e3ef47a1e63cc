-- How the lines of a listing's commands go on from one of them.
use Rattle.std.proofs.Common.{◌≡◌, ℕ, ◌+◌, List, [], ◌∷◌, ◌++◌, length, drop, Some, refl, arith, sym, ap, ◌∙◌}
use Rattle.std.proofs.lemmas.List.{append-nil, append_assoc}
use Rattle.std.specs.List.{slice_get}
use Rattle.demo_lump.specs.declared.command.Command.{Command}
use Rattle.look_engines.specs.Listing.{ticcmd_line, ticcmds_text}
use Rattle.look_engines.specs.Turn.{player_of, tic_of}
use Rattle.line_io.proofs.RestLemmas.{drop-at}

-- the text of the commands from a place on
pub ticcmds_text-drop : (players : List ℕ) (commands : List Command) (i : ℕ) (c : Command) (more : List ℕ) → slice_get commands i ≡ Some c
    → ticcmds_text players i (drop i commands) ++ more ≡ ticcmd_line (tic_of players i) (player_of players i) c ++ (ticcmds_text players (i + 1) (drop (i + 1) commands) ++ more)
ticcmds_text-drop players commands i c more at =
    rw (drop-at commands i c at) (append_assoc (ticcmd_line (tic_of players i) (player_of players i) c) (ticcmds_text players (i + 1) (drop (i + 1) commands)) more)

-- the text of one more command
pub ticcmds_text-last : (players : List ℕ) (i : ℕ) (commands : List Command) (c : Command)
    → ticcmds_text players i (commands ++ c ∷ []) ≡ ticcmds_text players i commands ++ ticcmd_line (tic_of players (i + length commands)) (player_of players (i + length commands)) c
ticcmds_text-last players i [] c =
    let here : i + 0 ≡ i = omega arith in
    rw here (append-nil _)
ticcmds_text-last players i (d ∷ commands) c =
    let next : i + length (d ∷ commands) ≡ i + 1 + length commands = omega arith in
    rw next (ap (λ t. ticcmd_line (tic_of players i) (player_of players i) d ++ t) (ticcmds_text-last players (i + 1) commands c) ∙ sym (append_assoc (ticcmd_line (tic_of players i) (player_of players i) d) _ _))

-- the text of commands behind others
pub ticcmds_text-append : (players : List ℕ) (i : ℕ) (commands others : List Command) → ticcmds_text players i (commands ++ others) ≡ ticcmds_text players i commands ++ ticcmds_text players (i + length commands) others
ticcmds_text-append players i [] others = let here : i + 0 ≡ i = omega arith in rw here refl
ticcmds_text-append players i (c ∷ commands) others =
    let next : i + length (c ∷ commands) ≡ i + 1 + length commands = omega arith in
    let line = ticcmd_line (tic_of players i) (player_of players i) c in
    rw next (ap (λ t. line ++ t) (ticcmds_text-append players (i + 1) commands others) ∙ sym (append_assoc line (ticcmds_text players (i + 1) commands) (ticcmds_text players (i + 1 + length commands) others)))
