-- Whose tic command comes when (ours).
use Rattle.std.specs.Prelude.{ℕ, ◌+◌, ◌/◌, ◌%◌, ◌==◌, if◌then◌else◌, List, [], ◌∷◌, slice_index}
use Rattle.demo_lump.specs.Header.{players_in}

-- the numbers of the players in the game, where the first of these bytes is player n's
abbrev pub seats_from : ℕ → List ℕ → List ℕ
seats_from n [] = []
seats_from n (b ∷ players) = if b == 0 then seats_from (n + 1) players else n ∷ seats_from (n + 1) players

-- the player of tic command i: those in the game take turns, from the lowest number on
abbrev pub player_of : List ℕ → ℕ → ℕ
player_of players i = slice_index (seats_from 1 players) (i % players_in players)

-- the tic of tic command i
abbrev pub tic_of : List ℕ → ℕ → ℕ
tic_of players i = i / players_in players

-- Whose tic command comes next: the players' bytes, and how many tic commands came
pub record PlayerTurn : Type 0 where
  pub players : List ℕ
  pub index : ℕ
