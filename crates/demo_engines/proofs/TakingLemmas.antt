-- Lines of commands that are taken one after another.
use Rattle.std.proofs.Common.{◌≡◌, ◌≢◌, ℕ, ◌+◌, ◌*◌, ◌^◌, ◌<◌, ◌≤◌, List, [], ◌∷◌, ◌++◌, length, refl, sym, ap, ◌∙◌, subst, arith, length-append}
use Rattle.std.proofs.lemmas.List.{append_assoc}
use Rattle.std.specs.List.{AllByRecursion}
use Rattle.demo_engines.proofs.ListingLemmas.{line_long}
use Rattle.demo_engines.specs.Assembly.{IsTakenFrom}
use Rattle.demo_engines.specs.Parts.{FitsCommand}
use Rattle.demo_lump.specs.declared.command.Command.{Command}
use Rattle.look_engines.proofs.ListingLemmas.{ticcmds_text-last}
use Rattle.look_engines.specs.Listing.{ticcmd_line, ticcmds_text}
use Rattle.look_engines.specs.Turn.{PlayerTurn, player_of, tic_of}

-- so many were taken
pub record Taking (version : ℕ) (players text : List ℕ) (commands : List Command) (turn : PlayerTurn) (rest : List ℕ) : Type 0 where
  pub splits : text ≡ ticcmds_text players 0 commands ++ rest
  pub turns : turn ≡ record { players = players; index = length commands }
  pub fit : AllByRecursion (FitsCommand version) commands
  pub few : length commands * 4 + length rest ≤ length text

pub takes_none : (version : ℕ) (players text : List ℕ) → Taking version players text [] (record { players = players; index = 0 }) text
takes_none version players text = record { splits = refl; turns = refl; fit = tt; few = omega arith }

pub fit_push : (version : ℕ) (commands : List Command) (c : Command) → AllByRecursion (FitsCommand version) commands → FitsCommand version c
    → AllByRecursion (FitsCommand version) (commands ++ c ∷ [])
fit_push version [] c fits fit = (fit, tt)
fit_push version (d ∷ commands) c fits fit = (fits.0, fit_push version commands c fits.1 fit)

pub takes_more : (version : ℕ) (players text : List ℕ) (commands : List Command) (turn : PlayerTurn) (rest behind : List ℕ) (c : Command) → Taking version players text commands turn rest
    → rest ≡ ticcmd_line (tic_of turn.players turn.index) (player_of turn.players turn.index) c ++ behind → FitsCommand version c
    → Taking version players text (commands ++ c ∷ []) (record turn { index = turn.index + 1 }) behind
takes_more version players text commands turn rest behind c taking goes fit =
    let own = ticcmd_line (tic_of players (length commands)) (player_of players (length commands)) c in
    let here : rest ≡ own ++ behind = goes ∙ ap (λ (t : PlayerTurn). ticcmd_line (tic_of t.players t.index) (player_of t.players t.index) c ++ behind) taking.turns in
    let zero_more : 0 + length commands ≡ length commands = omega arith in
    let one_more : length (commands ++ c ∷ []) ≡ length commands + 1 = length-append commands (c ∷ []) in
    let long = ap length here ∙ length-append own behind in
    let least = line_long (tic_of players (length commands)) (player_of players (length commands)) c in
    let before = taking.few in
    record {
      splits = taking.splits ∙ ap (λ t. ticcmds_text players 0 commands ++ t) here ∙ sym (append_assoc (ticcmds_text players 0 commands) own behind)
          ∙ ap (λ t. t ++ behind) (sym (ticcmds_text-last players 0 commands c ∙ ap (λ k. ticcmds_text players 0 commands ++ ticcmd_line (tic_of players k) (player_of players k) c) zero_more));
      turns = ap (λ (t : PlayerTurn). record t { index = t.index + 1 }) taking.turns ∙ ap (λ k. record { players = players; index = k }) (sym one_more);
      fit = fit_push version commands c taking.fit fit;
      few = omega (arith, before, one_more, long, least);
    }

-- what is left gets shorter
pub rest_shorter : (tic player : ℕ) (c : Command) (rest behind : List ℕ) → rest ≡ ticcmd_line tic player c ++ behind → length behind < length rest
rest_shorter tic player c rest behind goes = omega (arith, ap length goes, length-append (ticcmd_line tic player c) behind, line_long tic player c)

-- no more of them stand there
pub takes_all : (version : ℕ) (players text : List ℕ) (commands : List Command) (turn : PlayerTurn) (rest : List ℕ) → Taking version players text commands turn rest → length commands < 2 ^ 62
    → ((c : Command) (more : List ℕ) → FitsCommand version c → rest ≢ ticcmd_line (tic_of turn.players turn.index) (player_of turn.players turn.index) c ++ more)
    → IsTakenFrom version players text commands turn rest
takes_all version players text commands turn rest taking few none = record {
  splits = taking.splits;
  turns = taking.turns;
  fit = taking.fit;
  few = few;
  none = subst (λ (t : PlayerTurn). (c : Command) (more : List ℕ) → FitsCommand version c → rest ≢ ticcmd_line (tic_of t.players t.index) (player_of t.players t.index) c ++ more) taking.turns none;
}
