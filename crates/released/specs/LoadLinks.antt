-- The indexes that the released game follows as it loads linedefs and segs (P_LoadLineDefs and P_LoadSegs of p_setup.c,
-- linuxdoom 1.10), over the records as they stand in the lumps. It tests none of them, but a sidenum for -1.
use Rattle.std.specs.Prelude.{◌≡◌, ◌≢◌, ℕ, ℤ, pos, negsuc, ◌≤ℤ◌, ◌<ℤ◌, length, Option, Some}
use Rattle.std.specs.Int.{w32, int_bit_xor}
use Rattle.le_rec.specs.declared.records.LineDef.{LineDef}
use Rattle.le_rec.specs.declared.records.Seg.{Seg}
use Rattle.map_level.specs.Level.{Level}
use Rattle.map_level.specs.LinkFaults.{IsTwoSided}
use Rattle.released.specs.GroupLines.{item, sidenum}

-- an index is one of an array of so many
abbrev pub IsInside : ℕ → ℤ → Type 0
IsInside count index = (pos 0 ≤ℤ index) × (index <ℤ pos count)

-- P_LoadLineDefs follows the vertexes of a linedef, and each of its two sidenums that isn't -1
pub record IsLoadedInside (level : Level) (linedef : LineDef) : Type 0 where
  pub v1 : IsInside (length level.vertexes.records) linedef.v1
  pub v2 : IsInside (length level.vertexes.records) linedef.v2
  pub front : linedef.side0 ≢ negsuc 0 → IsInside (length level.sidedefs.records) linedef.side0
  pub back : linedef.side1 ≢ negsuc 0 → IsInside (length level.sidedefs.records) linedef.side1

-- P_LoadSegs follows the vertexes of a seg, its linedef, and that one's sidenum at the seg's side
pub record IsSegLoadedInside (level : Level) (seg : Seg) : Type 0 where
  pub v1 : IsInside (length level.vertexes.records) seg.v1
  pub v2 : IsInside (length level.vertexes.records) seg.v2
  pub linedef : LineDef
  pub there : item level.linedefs.records seg.linedef ≡ Some linedef
  pub side : ℤ
  pub at_side : sidenum linedef seg.side ≡ Some side
  pub sidedef : IsInside (length level.sidedefs.records) side

-- the sidenum at side ^ 1
abbrev pub back_sidenum : LineDef → ℤ → Option ℤ
back_sidenum linedef side = sidenum linedef (int_bit_xor w32 side (pos 1))

-- and behind a two-sided linedef that sidenum, which it does not test for -1
pub record FollowsBack (level : Level) (seg : Seg) (linedef : LineDef) (back : ℤ) : Type 0 where
  pub there : item level.linedefs.records seg.linedef ≡ Some linedef
  pub two_sided : IsTwoSided linedef.flags
  pub at_back : back_sidenum linedef seg.side ≡ Some back
