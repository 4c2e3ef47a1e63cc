-- W19: levels without an exit (G_ExitLevel and G_SecretExitLevel of g_game.c, and who calls them).
use Rattle.std.specs.Prelude.{◌≡◌, ◌⊎◌, ℕ, ℤ, pos, List, codes, IsSomeAnd, IsTrue, Some}
use Rattle.std.specs.List.{slice_get}
use Rattle.le_rec.specs.declared.records.LineDef.{LineDef}
use Rattle.game_numbers.specs.Number.{is_one_of}
use Rattle.game_numbers.specs.Specials.{exit}
use Rattle.game_numbers.specs.SectorSpecials.{exit_floor}
use Rattle.map_level.specs.Level.{Level}
use Rattle.map_level.specs.Links.{linedefs_of, sectors_of, things_of}
use Rattle.game_warnings.specs.Crossing.{IsBarred}
use Rattle.game_warnings.specs.Skill.{is_placed}
use Rattle.game_warnings.specs.declared.warning.Barrier.{Barrier}

-- a linedef ends the level: its special does, and where it acts by crossing something can cross it
abbrev pub EndsLevel : Level → LineDef → Type 0
EndsLevel level linedef = IsTrue (is_one_of exit linedef.special) × ((barrier : Barrier) → ¬ IsBarred level linedef barrier)

abbrev pub HasExitLine : Level → Type 0
HasExitLine level = (i : ℕ) × IsSomeAnd (slice_get (linedefs_of level) i) (EndsLevel level)

-- a sector's floor does
abbrev pub HasExitFloor : Level → Type 0
HasExitFloor level = (s : ℕ) × IsSomeAnd (slice_get (sectors_of level) s) (λ sector. IsTrue (is_one_of exit_floor sector.special))

-- a level's name
abbrev pub IsNamed : Level → List ℕ → Type 0
IsNamed level name = slice_get level.names 0 ≡ Some name

-- the death of things of a kind ends the level: the brain's (A_BrainDie of p_enemy.c), and two bosses' in their levels (A_BossDeath)
abbrev pub IsBoss : Level → ℤ → Type 0
IsBoss level kind =
    (kind ≡ pos 88) ⊎ (((kind ≡ pos 16) × IsNamed level (codes "E2M8")) ⊎ ((kind ≡ pos 7) × IsNamed level (codes "E3M8")))

-- some skill places such a thing
abbrev pub HasBoss : Level → Type 0
HasBoss level = (k : ℕ) × IsSomeAnd (slice_get (things_of level) k) (λ thing. IsBoss level thing.kind × IsTrue (is_placed thing))

-- a level can be ended
abbrev pub HasExit : Level → Type 0
HasExit level = HasExitLine level ⊎ (HasExitFloor level ⊎ HasBoss level)
