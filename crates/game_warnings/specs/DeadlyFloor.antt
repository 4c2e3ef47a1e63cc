-- W18: sectors on whose floor the game ends (P_PlayerInSpecialSector of p_spec.c).
use Rattle.std.specs.Prelude.{◌≡◌, ℕ, false, IsSomeAnd}
use Rattle.std.specs.List.{slice_get}
use Rattle.game_numbers.specs.Number.{is_one_of}
use Rattle.game_numbers.specs.SectorSpecials.{survived}
use Rattle.map_level.specs.Level.{Level}
use Rattle.map_level.specs.Links.{sectors_of}

-- a player doesn't survive the special of sector s
abbrev pub IsDeadly : Level → ℕ → Type 0
IsDeadly level s = IsSomeAnd (slice_get (sectors_of level) s) (λ sector. is_one_of survived sector.special ≡ false)
