-- Specials of sectors, by what the game does with them (P_SpawnSpecials and P_PlayerInSpecialSector of p_spec.c).
use Rattle.std.specs.Prelude.{ℕ, List, [], ◌∷◌, ◌++◌}
use Rattle.game_numbers.specs.Number.{upto}

-- specials of sectors that a player on the floor survives: P_PlayerInSpecialSector knows 4, 5, 7, 9, 11, 16, and P_SpawnSpecials turns the others into 0
unfoldable pub survived : List ℕ
survived = upto 0 5 ++ upto 7 14 ++ (16 ∷ 17 ∷ [])

-- a door that closes or opens by itself (P_SpawnDoorCloseIn30 and P_SpawnDoorRaiseIn5Mins of p_doors.c)
unfoldable pub timed_door : List ℕ
timed_door = 10 ∷ 14 ∷ []

-- a light that flashes (P_SpawnLightFlash and P_SpawnStrobeFlash of p_lights.c)
unfoldable pub flashing : List ℕ
flashing = upto 1 4 ++ (12 ∷ 13 ∷ [])

-- a light that glows (P_SpawnGlowingLight of p_lights.c)
unfoldable pub glowing : List ℕ
glowing = 8 ∷ []

-- an exit, once its floor has killed (P_PlayerInSpecialSector of p_spec.c)
unfoldable pub exit_floor : List ℕ
exit_floor = 11 ∷ []
