-- From where two demos stop being the same, what is told of them.
use Rattle.std.specs.Prelude.{MatchBool, codes}
use Rattle.std.proofs.Common.{◌≡◌, ℕ, Bool, true, false, List, [], length, ap, sym, ◌∙◌, subst}
use Rattle.later_demos.specs.Demo.{Demo}
use Rattle.later_demos.specs.declared.command.LaterCommand.{LaterCommand}
use Rattle.look_engines.specs.Turn.{PlayerTurn, player_of, tic_of}
use Rattle.demo_listings.specs.Differences.{AreCommandsCompared, AreSame, FrontDiffers, IsCompared, SameFront, StopsAt, a_ends, alike, b_ends, command_line, end_line, in_command, in_commands, in_front, other, players_in_game, same, unlike}
use Rattle.demo_listings.specs.declared.compare.Stop.TheVariants.{Same, Differ, EndOfA, EndOfB}
use Rattle.demo_listings.specs.declared.meaning.Compared.{Compared}

module _ (what : Compared) (a b : Demo) (line : List ℕ) where
  -- what is found before the commands
  pub front_told : (result : Bool) → MatchBool result (FrontDiffers what a b line) (SameFront what a b × (line ≡ [])) → result ≡ true
      → IsCompared what a b line false
  front_told true found is = other line (in_front line found)
  front_told false found is = absurd (let f : ⊥ = cc in f)

  pub front_agrees : (result : Bool) → MatchBool result (FrontDiffers what a b line) (SameFront what a b × (line ≡ [])) → result ≡ false
      → SameFront what a b × (line ≡ [])
  front_agrees true found is = absurd (let f : ⊥ = cc in f)
  front_agrees false found is = found

-- and in them
pub commands_told : (what : Compared) (a b : Demo) (line : List ℕ) (result : Bool) → SameFront what a b → AreCommandsCompared what a b line result
    → IsCompared what a b line result
commands_told what a b line result front (alike commands) = same (front, commands)
commands_told what a b line result front (unlike text differ) = other text (in_commands text front differ)

pub found_same : (what : Compared) (a b : Demo) (line : List ℕ) (result : Bool) → IsCompared what a b line result → result ≡ true → AreSame what a b
found_same what a b line result (same are) is = are
found_same what a b line result (other text differs) is = absurd (let f : ⊥ = cc in f)

-- from where the commands stop being the same
module _ (what : Compared) (a b : Demo) (turn : PlayerTurn) (line : List ℕ) (players : turn.players ≡ players_in_game a) where
  pub stop_same : StopsAt what a b turn.index Same → line ≡ [] → AreCommandsCompared what a b line true
  stop_same stops is = subst (λ (t : List ℕ). AreCommandsCompared what a b t true) (sym is) (alike stops)

  pub stop_differ : (x y : LaterCommand) → StopsAt what a b turn.index (Differ x y)
      → line ≡ command_line (tic_of turn.players turn.index) (player_of turn.players turn.index) x y → AreCommandsCompared what a b line false
  stop_differ x y stops is =
      subst (λ (t : List ℕ). AreCommandsCompared what a b t false)
      (sym (is ∙ ap (λ (p : List ℕ). command_line (tic_of p turn.index) (player_of p turn.index) x y) players))
      (unlike (command_line (tic_of (players_in_game a) turn.index) (player_of (players_in_game a) turn.index) x y)
      (in_command turn.index x y stops.before stops.of_a stops.of_b stops.differ))

  pub stop_at_end_of_a : StopsAt what a b turn.index EndOfA → line ≡ end_line (codes "A") (tic_of turn.players turn.index)
      → AreCommandsCompared what a b line false
  stop_at_end_of_a stops is =
      subst (λ (t : List ℕ). AreCommandsCompared what a b t false)
      (sym (is ∙ ap (λ (p : List ℕ). end_line (codes "A") (tic_of p turn.index)) players
      ∙ ap (λ (n : ℕ). end_line (codes "A") (tic_of (players_in_game a) n)) stops.2))
      (unlike (end_line (codes "A") (tic_of (players_in_game a) (length a.commands))) (a_ends stops.0 stops.1))

  pub stop_at_end_of_b : StopsAt what a b turn.index EndOfB → line ≡ end_line (codes "B") (tic_of turn.players turn.index)
      → AreCommandsCompared what a b line false
  stop_at_end_of_b stops is =
      subst (λ (t : List ℕ). AreCommandsCompared what a b t false)
      (sym (is ∙ ap (λ (p : List ℕ). end_line (codes "B") (tic_of p turn.index)) players
      ∙ ap (λ (n : ℕ). end_line (codes "B") (tic_of (players_in_game a) n)) stops.2))
      (unlike (end_line (codes "B") (tic_of (players_in_game a) (length b.commands))) (b_ends stops.0 stops.1))
