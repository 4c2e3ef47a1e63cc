-- The sector of an ssector (P_GroupLines of p_setup.c): that of the sidedef at its first seg's side of the seg's linedef.
use Rattle.std.specs.Prelude.{ℕ, ◌≤◌, ℤ, pos, negsuc, length, Option, Some, None, nat_lt, if◌then◌else◌}
use Rattle.std.specs.Ordering.{int_eq}
use Rattle.std.specs.List.{slice_get}
use Rattle.le_rec.specs.declared.records.Seg.{Seg}
use Rattle.le_rec.specs.declared.records.SideDef.{SideDef}
use Rattle.map_level.specs.Level.{Level}
use Rattle.map_level.specs.Links.{sidedefs_of, segs_of, ssectors_of, sectors_of, named, no_side, side_of, ◌>>=◌}
use Rattle.map_level.specs.Findings.{rank}
use Rattle.map_level.specs.LinkFaults.{LinkHolds}
use Rattle.map_level.specs.declared.finding.Code.{Code}
use Rattle.map_level.specs.declared.finding.Code.TheVariants.{F3, F10}

-- the first seg of an ssector
abbrev pub first_seg : Level → ℕ → Option Seg
first_seg level t = do
  ssector ← slice_get (ssectors_of level) t
  named (segs_of level) ssector.first

-- the sidedef that an index names, where it doesn't say that there is no side
abbrev pub sidedef_named : Level → ℤ → Option SideDef
sidedef_named level side =
    if int_eq side (no_side level.reading) then None else named (sidedefs_of level) side

-- the sidedef of a seg
abbrev pub sidedef_of : Level → Seg → Option SideDef
sidedef_of level seg = do
  side ← side_of level seg
  sidedef_named level side

-- the number that an index names one of so many records by
abbrev pub number_named : ℕ → ℤ → Option ℕ
number_named count (pos n) = if nat_lt n count then Some n else None
number_named count (negsuc n) = None

-- the number of the sector of an ssector, where each link on the way names something
abbrev pub sector_of : Level → ℕ → Option ℕ
sector_of level t = do
  seg ← first_seg level t
  sidedef ← sidedef_of level seg
  number_named (length (sectors_of level)) sidedef.sector

-- a code is one of F3 to F10
abbrev pub IsLinkFault : Code → Type 0
IsLinkFault code = (rank F3 ≤ rank code) × (rank code ≤ rank F10)

-- a level has no fault F3 to F10, so that each of its ssectors has a sector
abbrev pub IsLinked : Level → Type 0
IsLinked level = (code : Code) (i : ℕ) → IsLinkFault code → ¬ LinkHolds level code i
