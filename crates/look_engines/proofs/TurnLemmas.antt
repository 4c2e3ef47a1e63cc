-- The players in the game, one after another.
use Rattle.std.specs.Prelude.{◌==◌, not}
use Rattle.std.proofs.Common.{◌≡◌, ◌≢◌, ℕ, ◌+◌, ◌<◌, true, false, cond, List, [], ◌∷◌, ◌++◌, length, take, get_or, refl, ap, ◌∙◌, arith}
use Rattle.std.proofs.lemmas.List.{take_more, length-take-le}
use Rattle.std.proofs.lemmas.List.Sums.{count_by_more_no, count_by_more_yes}
use Rattle.std.proofs.lemmas.Bool.Decides.{nat_tests}
use Rattle.demo_lump.specs.Header.{players_in}
use Rattle.look_engines.specs.Turn.{seats_from}

seats_from-none : (n : ℕ) (players : List ℕ) (b : ℕ) → b ≡ 0 → seats_from n (players ++ b ∷ []) ≡ seats_from n players
seats_from-none n [] b h = rw h refl
seats_from-none n (p ∷ players) b h =
    elim (p == 0) as (λ t. cond t (seats_from (n + 1) (players ++ b ∷ [])) (n ∷ seats_from (n + 1) (players ++ b ∷ [])) ≡ cond t (seats_from (n + 1) players) (n ∷ seats_from (n + 1) players))
    [ true ↦ seats_from-none (n + 1) players b h | false ↦ ap (λ s. n ∷ s) (seats_from-none (n + 1) players b h) ]

seats_from-one : (n m : ℕ) (players : List ℕ) (b : ℕ) → b ≢ 0 → m ≡ n + length players → seats_from n (players ++ b ∷ []) ≡ seats_from n players ++ m ∷ []
seats_from-one n m [] b h e =
    let no : (b == 0) ≡ false = grind (arith, nat_tests) in
    let same : m ≡ n = omega (arith, e) in
    rw (no, same) refl
seats_from-one n m (p ∷ players) b h e =
    let next = seats_from-one (n + 1) m players b h (omega (arith, e)) in
    elim (p == 0) as (λ t. cond t (seats_from (n + 1) (players ++ b ∷ [])) (n ∷ seats_from (n + 1) (players ++ b ∷ [])) ≡ cond t (seats_from (n + 1) players) (n ∷ seats_from (n + 1) players) ++ m ∷ [])
    [ true ↦ next | false ↦ ap (λ s. n ∷ s) next ]

-- the seats of one more byte
pub seats_more_no : (players : List ℕ) (i : ℕ) → i < length players → get_or players i 0 ≡ 0 → seats_from 1 (take (i + 1) players) ≡ seats_from 1 (take i players)
seats_more_no players i h none = ap (seats_from 1) (take_more players i 0 h) ∙ seats_from-none 1 (take i players) (get_or players i 0) none

pub seats_more_yes : (players : List ℕ) (i : ℕ) → i < length players → get_or players i 0 ≢ 0 → seats_from 1 (take (i + 1) players) ≡ seats_from 1 (take i players) ++ (i + 1) ∷ []
seats_more_yes players i h some =
    let long : length (take i players) ≡ i = length-take-le i players (omega arith) in
    ap (seats_from 1) (take_more players i 0 h) ∙ seats_from-one 1 (i + 1) (take i players) (get_or players i 0) some (omega (arith, long))

pub players_more_no : (players : List ℕ) (i : ℕ) → i < length players → get_or players i 0 ≡ 0 → players_in (take (i + 1) players) ≡ players_in (take i players)
players_more_no players i h none = count_by_more_no (λ b. not (b == 0)) players i 0 h (rw none refl)

pub players_more_yes : (players : List ℕ) (i : ℕ) → i < length players → get_or players i 0 ≢ 0 → players_in (take (i + 1) players) ≡ players_in (take i players) + 1
players_more_yes players i h some =
    let no : (get_or players i 0 == 0) ≡ false = grind (arith, nat_tests) in
    count_by_more_yes (λ b. not (b == 0)) players i 0 h (rw no refl)
