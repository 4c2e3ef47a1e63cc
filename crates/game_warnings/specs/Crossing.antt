-- W16: specials that nothing can trigger by crossing their linedef (P_TryMove and PIT_CheckLine of p_map.c).
use Rattle.std.specs.Prelude.{◌≡◌, ◌≢◌, ◌⊎◌, ℕ, ℤ, pos, false, IsSomeAnd, IsTrue}
use Rattle.std.specs.Int.{int_bit_and, w16}
use Rattle.std.specs.List.{slice_get}
use Rattle.le_rec.specs.declared.records.LineDef.{LineDef}
use Rattle.game_numbers.specs.Number.{is_one_of}
use Rattle.game_numbers.specs.Specials.{crossed, missile, monster}
use Rattle.map_level.specs.Level.{Level}
use Rattle.map_level.specs.Links.{linedefs_of, no_side}
use Rattle.game_warnings.specs.declared.warning.Barrier.{Barrier}
use Rattle.game_warnings.specs.declared.warning.Barrier.TheVariants.{NoBack, LetsNone}

-- a flag of a linedef is set: 1 stops all but missiles, 2 stops monsters (ML_BLOCKING and ML_BLOCKMONSTERS of doomdata.h)
abbrev pub HasFlag : ℤ → LineDef → Type 0
HasFlag flag linedef = int_bit_and w16 linedef.flags flag ≢ pos 0

-- a linedef has no back sidedef
abbrev pub HasNoBack : Level → LineDef → Type 0
HasNoBack level linedef = linedef.side1 ≡ no_side level.reading

-- its flags stop all that could trigger its special
abbrev pub StopsAll : LineDef → Type 0
StopsAll linedef =
    (HasFlag (pos 1) linedef × (is_one_of missile linedef.special ≡ false)) ⊎ (HasFlag (pos 2) linedef × IsTrue (is_one_of monster linedef.special))

-- what keeps all from crossing a linedef
abbrev pub Bars : Level → LineDef → Barrier → Type 0
Bars level linedef NoBack = HasNoBack level linedef
Bars level linedef LetsNone = (¬ HasNoBack level linedef) × StopsAll linedef

-- a linedef's special acts when something crosses the linedef, and nothing that could trigger the special does
abbrev pub IsBarred : Level → LineDef → Barrier → Type 0
IsBarred level linedef barrier = IsTrue (is_one_of crossed linedef.special) × Bars level linedef barrier

abbrev pub IsNeverCrossed : Level → ℕ → Barrier → Type 0
IsNeverCrossed level i barrier = IsSomeAnd (slice_get (linedefs_of level) i) (λ linedef. IsBarred level linedef barrier)
