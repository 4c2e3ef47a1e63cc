-- Specials of linedefs, by what the game does with them (P_CrossSpecialLine of p_spec.c, P_UseSpecialLine of p_switch.c).
use Rattle.std.specs.Prelude.{ℕ, List, [], ◌∷◌, ◌++◌}
use Rattle.game_numbers.specs.Number.{upto}
use Rattle.game_numbers.specs.declared.key.Key.{Key}
use Rattle.game_numbers.specs.declared.key.Key.TheVariants.{Blue, Yellow, Red}

-- the specials that the game has (P_CrossSpecialLine, P_ShootSpecialLine and P_UpdateSpecials of p_spec.c, P_UseSpecialLine of p_switch.c)
unfoldable pub game : List ℕ
game = upto 1 77 ++ upto 79 84 ++ upto 86 141

-- those that act when something crosses their linedef (P_CrossSpecialLine of p_spec.c)
unfoldable pub crossed : List ℕ
crossed =
    upto 2 6 ++ (8 ∷ 10 ∷ 12 ∷ 13 ∷ 16 ∷ 17 ∷ 19 ∷ 22 ∷ 25 ∷ 30 ∷ []) ++ upto 35 40 ++ (44 ∷ []) ++ upto 52 54 ++ upto 56 59 ++ upto 72 77
    ++ upto 79 84 ++ upto 86 98 ++ (100 ∷ []) ++ upto 104 110 ++ upto 119 121 ++ upto 124 126 ++ upto 128 130 ++ (141 ∷ [])

-- those of them that some monsters' missiles trigger, too (P_CrossSpecialLine of p_spec.c)
unfoldable pub missile : List ℕ
missile = 4 ∷ 10 ∷ 88 ∷ []

-- those of them that monsters alone trigger (P_CrossSpecialLine of p_spec.c)
unfoldable pub monster : List ℕ
monster = 125 ∷ 126 ∷ []

-- those that act when a player uses their linedef (P_UseSpecialLine of p_switch.c)
unfoldable pub used : List ℕ
used =
    (1 ∷ 7 ∷ 9 ∷ 11 ∷ 14 ∷ 15 ∷ 18 ∷ 20 ∷ 21 ∷ 23 ∷ []) ++ upto 26 29 ++ upto 31 34 ++ upto 41 43 ++ (45 ∷ []) ++ upto 49 51 ++ (55 ∷ [])
    ++ upto 60 71 ++ (99 ∷ []) ++ upto 101 103 ++ upto 111 118 ++ (122 ∷ 123 ∷ 127 ∷ []) ++ upto 131 140

-- those that act when something shoots at their linedef (P_ShootSpecialLine of p_spec.c)
unfoldable pub shot : List ℕ
shot = 24 ∷ 46 ∷ 47 ∷ []

-- the one whose wall scrolls (P_SpawnSpecials and P_UpdateSpecials of p_spec.c)
unfoldable pub scrolling : List ℕ
scrolling = 48 ∷ []

-- the doors that are opened by hand, at their own linedef (EV_VerticalDoor of p_doors.c)
unfoldable pub door : List ℕ
door = (1 ∷ []) ++ upto 26 28 ++ upto 31 34 ++ (117 ∷ 118 ∷ [])

-- those that end the level (G_ExitLevel and G_SecretExitLevel of g_game.c)
unfoldable pub exit : List ℕ
exit = 11 ∷ 51 ∷ 52 ∷ 124 ∷ []

-- those that take to a thing in a sector that has the linedef's tag (EV_Teleport of p_telept.c)
unfoldable pub teleport : List ℕ
teleport = 39 ∷ 97 ∷ 125 ∷ 126 ∷ []

-- those that act on all sectors that have the linedef's tag (P_FindSectorFromLineTag of p_spec.c)
unfoldable pub tagged : List ℕ
tagged =
    upto 2 10 ++ upto 12 25 ++ (29 ∷ 30 ∷ []) ++ upto 35 38 ++ upto 40 47 ++ (49 ∷ 50 ∷ []) ++ upto 53 77 ++ upto 79 84 ++ upto 86 96
    ++ upto 98 116 ++ upto 119 123 ++ upto 127 141

-- those that start a platform in each of these sectors (EV_DoPlat of p_plats.c)
unfoldable pub platform : List ℕ
platform = (10 ∷ 14 ∷ 15 ∷ []) ++ upto 20 22 ++ (47 ∷ 53 ∷ 62 ∷ []) ++ upto 66 68 ++ (87 ∷ 88 ∷ 95 ∷ []) ++ upto 120 123

-- those whose platforms go up and down for ever (perpetualRaise in EV_DoPlat of p_plats.c)
unfoldable pub perpetual : List ℕ
perpetual = 53 ∷ 87 ∷ []

-- those that move the ceiling of each (EV_DoCeiling of p_ceilng.c)
unfoldable pub ceiling : List ℕ
ceiling = 6 ∷ 25 ∷ 40 ∷ 41 ∷ 43 ∷ 44 ∷ 49 ∷ 72 ∷ 73 ∷ 77 ∷ 141 ∷ []

-- those that look for the next higher floor beside each (P_FindNextHighestFloor of p_spec.c)
unfoldable pub nearest : List ℕ
nearest = (18 ∷ 20 ∷ 22 ∷ 47 ∷ 68 ∷ 69 ∷ 95 ∷ 119 ∷ []) ++ upto 128 132

-- those that lower the floor of each and take over what lies beside it (lowerAndChange in EV_DoFloor of p_floor.c)
unfoldable pub change : List ℕ
change = 37 ∷ 84 ∷ []

-- those that want a blue key (EV_VerticalDoor and EV_DoLockedDoor of p_doors.c)
unfoldable pub blue_lock : List ℕ
blue_lock = 26 ∷ 32 ∷ 99 ∷ 133 ∷ []

-- those that want a yellow key
unfoldable pub yellow_lock : List ℕ
yellow_lock = 27 ∷ 34 ∷ 136 ∷ 137 ∷ []

-- those that want a red key
unfoldable pub red_lock : List ℕ
red_lock = 28 ∷ 33 ∷ 134 ∷ 135 ∷ []

-- those that want a key
abbrev pub locks : Key → List ℕ
locks Blue = blue_lock
locks Yellow = yellow_lock
locks Red = red_lock
