-- The sector of an ssector as the released game finds it (P_GroupLines, with P_LoadSubsectors, P_LoadSegs, P_LoadLineDefs
-- and P_LoadSideDefs of p_setup.c, linuxdoom 1.10), over the records as they stand in the lumps.
use Rattle.std.specs.Prelude.{ℕ, ℤ, pos, negsuc, List, length, Option, Some, None, nat_lt, if◌then◌else◌}
use Rattle.std.specs.Ordering.{int_eq}
use Rattle.std.specs.List.{slice_get}
use Rattle.le_rec.specs.declared.records.LineDef.{LineDef}
use Rattle.le_rec.specs.declared.records.SideDef.{SideDef}
use Rattle.le_rec.specs.declared.records.Seg.{Seg}
use Rattle.map_level.specs.Level.{Level}
use Rattle.map_level.specs.Links.{◌>>=◌}

-- the record at an index of an array; the game tests no index, so before the array and past it it reads what lies there
abbrev pub item : {R : Type 0} → List R → ℤ → Option R
item records (pos n) = slice_get records n
item records (negsuc n) = None

-- sidenum, the two numbers of a linedef, at an index
abbrev pub sidenum : LineDef → ℤ → Option ℤ
sidenum linedef side =
    if int_eq side (pos 0)
    then Some linedef.side0
    else if int_eq side (pos 1) then Some linedef.side1 else None

-- the place of a sector among so many
abbrev pub sector_place : ℕ → ℤ → Option ℕ
sector_place count (pos n) = if nat_lt n count then Some n else None
sector_place count (negsuc n) = None

-- the seg of ssector t at firstline
abbrev pub released_seg : Level → ℕ → Option Seg
released_seg level t = do
  ssector ← slice_get level.ssectors.records t
  item level.segs.records ssector.first

-- the sidedef of a seg: that of its linedef at the seg's side
abbrev pub released_sidedef : Level → Seg → Option SideDef
released_sidedef level seg = do
  linedef ← item level.linedefs.records seg.linedef
  side ← sidenum linedef seg.side
  item level.sidedefs.records side

-- the sector of ssector t
abbrev pub released_sector : Level → ℕ → Option ℕ
released_sector level t = do
  seg ← released_seg level t
  sidedef ← released_sidedef level seg
  sector_place (length level.sectors.records) sidedef.sector
