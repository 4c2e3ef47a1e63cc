-- The game's kinds by runs, by computation at each number.
use Rattle.std.proofs.Common.{◌≡◌, ℕ, ◌<◌, ℤ, pos, negsuc, false, inl, inr, refl, arith}
use Rattle.std.proofs.lemmas.Bool.{cases_lt}
use Rattle.std.proofs.lemmas.Bool.Decides.{nat_tests}
use Rattle.game_numbers.specs.Number.{has, is_between, is_one_of}
use Rattle.game_numbers.specs.Kinds.{game_kinds, is_in_runs}
use Rattle.game_numbers.proofs.MarkLemmas.{agree_at, has-past}

run-past : (least greatest n : ℕ) → greatest < n → is_between (pos least) (pos greatest) (pos n) ≡ false
run-past least greatest n past = grind (arith, nat_tests)

pub runs_are_kinds : (kind : ℤ) → is_in_runs kind ≡ is_one_of game_kinds kind
unfolding game_kinds
runs_are_kinds (pos n) = elim (cases_lt n 3007) [
  | inl below ↦ agree_at (λ k. is_in_runs (pos k)) (has game_kinds) 3007 n refl below
  | inr past ↦
      rw (
        has-past 3007 game_kinds n refl past,
        run-past 5 10 n (omega arith),
        run-past 12 89 n (omega arith),
        run-past 2001 2008 n (omega arith),
        run-past 2010 2015 n (omega arith),
        run-past 2018 2019 n (omega arith),
        run-past 2022 2026 n (omega arith),
        run-past 2028 2028 n (omega arith),
        run-past 2035 2035 n (omega arith),
        run-past 2045 2049 n (omega arith),
        run-past 3001 3006 n (omega arith),
      ) refl
]
runs_are_kinds (negsuc n) = refl
