-- Kinds of things, by what the game does with them (P_TouchSpecialThing of p_inter.c).
use Rattle.std.specs.Prelude.{◌||◌, ℕ, ℤ, pos, Bool, List, [], ◌∷◌, ◌++◌}
use Rattle.game_numbers.specs.Number.{is_between, upto}
use Rattle.game_numbers.specs.declared.key.Key.{Key}
use Rattle.game_numbers.specs.declared.key.Key.TheVariants.{Blue, Yellow, Red}

-- a blue key or skull key (P_TouchSpecialThing of p_inter.c)
unfoldable pub blue_key : List ℕ
blue_key = 5 ∷ 40 ∷ []

-- a yellow one
unfoldable pub yellow_key : List ℕ
yellow_key = 6 ∷ 39 ∷ []

-- a red one
unfoldable pub red_key : List ℕ
red_key = 13 ∷ 38 ∷ []

-- those that the first game doesn't have; the reading of a level's things ends at the first of them (P_LoadThings of p_setup.c)
unfoldable pub second_game : List ℕ
second_game = upto 64 69 ++ (71 ∷ 84 ∷ 88 ∷ 89 ∷ [])

-- those that open a lock
abbrev pub key_kinds : Key → List ℕ
key_kinds Blue = blue_key
key_kinds Yellow = yellow_key
key_kinds Red = red_key

-- the game's things that stand in levels, 118 kinds (mobjinfo of info.c)
unfoldable pub game_kinds : List ℕ
game_kinds =
    upto 5 10 ++ upto 12 89 ++ upto 2001 2008 ++ upto 2010 2015 ++ (2018 ∷ 2019 ∷ []) ++ upto 2022 2026 ++ (2028 ∷ 2035 ∷ [])
    ++ upto 2045 2049 ++ upto 3001 3006

-- the same by runs
abbrev pub is_in_runs : ℤ → Bool
is_in_runs kind =
    is_between (pos 5) (pos 10) kind || is_between (pos 12) (pos 89) kind || is_between (pos 2001) (pos 2008) kind
    || is_between (pos 2010) (pos 2015) kind || is_between (pos 2018) (pos 2019) kind || is_between (pos 2022) (pos 2026) kind
    || is_between (pos 2028) (pos 2028) kind || is_between (pos 2035) (pos 2035) kind || is_between (pos 2045) (pos 2049) kind
    || is_between (pos 3001) (pos 3006) kind
