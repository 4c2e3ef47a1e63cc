-- The sector of a later ssector (P_GroupLines of dsda-doom's p_setup.c): that of the sidedef at its first seg's side of the seg's linedef.
use Rattle.std.specs.Prelude.{ℕ, List, [], ◌∷◌, Option, None, length, take, drop}
use Rattle.std.specs.List.{slice_get}
use Rattle.std.specs.Option.{option_or}
use Rattle.map_level.specs.Level.{Level}
use Rattle.map_level.specs.Links.{sectors_of, ◌>>=◌}
use Rattle.map_level.specs.SectorOf.{number_named, sidedef_named}
use Rattle.node_lumps.specs.Format.{lump_of}
use Rattle.node_lumps.specs.Later.{Later}
use Rattle.node_lumps.specs.declared.format.NodeLump.{NodeLump}
use Rattle.node_lumps.specs.declared.format.NodeLump.TheVariants.{Nodes, Ssectors}
use Rattle.node_lumps.specs.declared.records.LaterSeg.{LaterSeg}
use Rattle.node_lumps.specs.declared.records.LaterSsector.{LaterSsector}
use Rattle.node_lumps.specs.declared.records.SegLine.{SegLine}
use Rattle.later_levels.specs.LaterLevel.{LaterLevel}
use Rattle.later_levels.specs.SegFaults.{line_in, side_of}

-- the linedef's side along which the first seg runs that isn't a miniseg
abbrev pub first_line : List LaterSeg → Option SegLine
first_line [] = None
first_line (seg ∷ segs) = option_or seg.line (first_line segs)

-- the linedef's side that an ssector has its sector by: its first seg's, which may be behind its own where it has none
abbrev pub line_by : NodeLump → Later → LaterSsector → Option SegLine
line_by Nodes later ssector = line_in later ssector.first
line_by Ssectors later ssector = first_line (take ssector.count (drop ssector.first later.segs))

abbrev pub line_of : Later → LaterSsector → Option SegLine
line_of later ssector = line_by (lump_of later.format) later ssector

-- the sector that a linedef's side faces
abbrev pub sector_faced : Level → SegLine → Option ℕ
sector_faced level line = do
  side ← side_of level line
  sidedef ← sidedef_named level side
  number_named (length (sectors_of level)) sidedef.sector

-- the number of the sector of an ssector, where each link on the way names something
abbrev pub sector_of : LaterLevel → ℕ → Option ℕ
sector_of one t = do
  ssector ← slice_get one.later.ssectors t
  line ← line_of one.later ssector
  sector_faced one.level line
