-- The numbers of tics and players are small.
use Rattle.std.proofs.Common.{◌≡◌, ℕ, ◌+◌, ◌/◌, ◌%◌, ◌^◌, ◌<◌, ◌≤◌, zero, suc, true, false, ◌==◌, if◌then◌else◌, List, [], ◌∷◌, length, arith, slice_index}
use Rattle.demo_lump.specs.Header.{players_in}
use Rattle.look_engines.specs.Turn.{player_of, seats_from, tic_of}

at_place : (n m k : ℕ) (seats : List ℕ) → n ≤ m → ((j : ℕ) → slice_index seats j ≤ m) → slice_index (n ∷ seats) k ≤ m
at_place n m zero seats here rest = here
at_place n m (suc k) seats here rest = rest k

pub seat_small : (n k : ℕ) (players : List ℕ) → slice_index (seats_from n players) k ≤ n + length players
seat_small n k [] = omega arith
seat_small n k (b ∷ players) =
    let rest : (j : ℕ) → slice_index (seats_from (n + 1) players) j ≤ n + length (b ∷ players) = λ j. omega (arith, seat_small (n + 1) j players) in
    elim (b == 0) as (λ t. slice_index (if t then seats_from (n + 1) players else (n ∷ seats_from (n + 1) players)) k ≤ n + length (b ∷ players)) [
      | true ↦ rest k
      | false ↦ at_place n (n + length (b ∷ players)) k (seats_from (n + 1) players) (omega arith) rest
    ]

pub turns_small : (players : List ℕ) → length players ≡ 4 → (k : ℕ) → k < 2 ^ 64 → (tic_of players k < 2 ^ 64) × (player_of players k < 2 ^ 64)
turns_small players long k small = (quotient_small k (players_in players) small, omega (arith, long, seat_small 1 (k % players_in players) players))
  where
    quotient_small : (k n : ℕ) → k < 2 ^ 64 → k / n < 2 ^ 64
    quotient_small k n small = grind arith
