-- Laws of levels with later nodes (ours).
use Rattle.std.specs.Prelude.{◌≡◌, ◌↔◌, ℕ}
use Rattle.map_geo.specs.Point.{Point}
use Rattle.map_level.specs.Findings.{NoFaultHolds}
use Rattle.map_level.specs.Level.{Level}
use Rattle.map_level.specs.SectorOf.{sector_of as level_sector_of}
use Rattle.node_tree.specs.LaterShape.{shape_of}
use Rattle.node_tree.specs.Leaf.{IsLeaf}
use Rattle.later_levels.specs.Findings.{LaterHolds}
use Rattle.later_levels.specs.LaterLevel.{LaterLevel}
use Rattle.later_levels.specs.SectorOf.{sector_of}
use Rattle.later_levels.specs.Sound.{IsSound}
use Rattle.later_levels.specs.Wider.{IsWider}

-- each point has exactly one leaf
abbrev pub OneLeaf : Type 0
OneLeaf = (one : LaterLevel) (point : Point) → IsSound one → (t : ℕ) × IsLeaf (shape_of one.later) point t × ((u : ℕ) → IsLeaf (shape_of one.later) point u → u ≡ t)

-- a level is sound exactly where no fault holds
abbrev pub SoundIsFaultless : Type 0
SoundIsFaultless = (one : LaterLevel) → IsSound one ↔ NoFaultHolds (LaterHolds one)

-- where a level's nodes, ssectors and segs are written wider each ssector has the same sector
abbrev pub SameSector : Type 0
SameSector = (level : Level) (one : LaterLevel) (t : ℕ) → IsWider level one → level_sector_of level t ≡ sector_of one t
