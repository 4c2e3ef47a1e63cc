-- W15: linedefs that act on all sectors without a tag (P_FindSectorFromLineTag of p_spec.c compares the tags, 0 as any other).
use Rattle.std.specs.Prelude.{◌≡◌, ℕ, pos, count_by, IsSomeAnd, IsTrue}
use Rattle.std.specs.Ordering.{int_eq}
use Rattle.std.specs.List.{slice_get}
use Rattle.le_rec.specs.declared.records.LineDef.{LineDef}
use Rattle.game_numbers.specs.Number.{is_one_of}
use Rattle.game_numbers.specs.Specials.{tagged}
use Rattle.map_level.specs.Level.{Level}
use Rattle.map_level.specs.Links.{linedefs_of, sectors_of}

-- a linedef's special goes by the tag, and its tag is 0
abbrev pub GoesByZero : LineDef → Type 0
GoesByZero linedef = (linedef.tag ≡ pos 0) × IsTrue (is_one_of tagged linedef.special)

-- linedef i does so
abbrev pub IsOfZeroTag : Level → ℕ → Type 0
IsOfZeroTag level i = IsSomeAnd (slice_get (linedefs_of level) i) GoesByZero

-- how many sectors have the tag 0
abbrev pub zero_tagged : Level → ℕ
zero_tagged level = count_by (λ sector. int_eq sector.tag (pos 0)) (sectors_of level)

-- linedef i does so, and acts on so many sectors
abbrev pub HasZeroTag : Level → ℕ → ℕ → Type 0
HasZeroTag level i sectors = IsOfZeroTag level i × (sectors ≡ zero_tagged level)
