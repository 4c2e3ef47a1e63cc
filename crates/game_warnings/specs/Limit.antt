-- W22: limits of the game's arrays.
use Rattle.std.specs.Prelude.{◌≡◌, ◌&&◌, ℕ, ◌<◌, ℤ, pos, Bool, count_by, IsTrue}
use Rattle.std.specs.List.{list_any}
use Rattle.std.specs.Ordering.{int_eq}
use Rattle.le_rec.specs.declared.records.LineDef.{LineDef}
use Rattle.game_numbers.specs.Number.{is_one_of}
use Rattle.game_numbers.specs.Specials.{perpetual, scrolling}
use Rattle.map_level.specs.Level.{Level}
use Rattle.map_level.specs.Links.{linedefs_of, sectors_of, things_of}

-- how many linedefs scroll (linespeciallist of p_spec.c has 64)
abbrev pub scrolling_count : Level → ℕ
scrolling_count level = count_by (λ linedef. is_one_of scrolling linedef.special) (linedefs_of level)

-- how many sectors have the tag of a linedef whose platforms go up and down for ever (activeplats of p_plats.c has 30)
abbrev pub is_perpetual_at : LineDef → ℤ → Bool
is_perpetual_at linedef tag = is_one_of perpetual linedef.special && int_eq linedef.tag tag

abbrev pub is_perpetual_tag : Level → ℤ → Bool
is_perpetual_tag level tag = list_any (λ linedef. is_perpetual_at linedef tag) (linedefs_of level)

abbrev pub perpetual_count : Level → ℕ
perpetual_count level = count_by (λ sector. is_perpetual_tag level sector.tag) (sectors_of level)

-- some linedef has such platforms and a tag
abbrev pub IsPerpetual : Level → ℤ → Type 0
IsPerpetual level tag = IsTrue (is_perpetual_tag level tag)

-- how many things are deathmatch starts (deathmatchstarts of doomstat.h has 10)
abbrev pub deathmatch_count : Level → ℕ
deathmatch_count level = count_by (λ thing. int_eq thing.kind (pos 11)) (things_of level)

-- a count is above the most that there can be
abbrev pub IsAbove : ℕ → ℕ → ℕ → Type 0
IsAbove most count number = (number ≡ count) × (most < number)
