-- A level's own nodes, ssectors and segs written wider, as extended nodes have them (FProcessor::WriteBSPX of zdbsp).
use Rattle.std.specs.Prelude.{◌≡◌, ℕ, pos, Some, IsSomeAnd, length}
use Rattle.std.specs.List.{slice_get}
use Rattle.le_rec.specs.declared.records.SSector.{SSector}
use Rattle.le_rec.specs.declared.records.Seg.{Seg}
use Rattle.map_level.specs.Level.{Level}
use Rattle.map_level.specs.Links.{segs_of, ssectors_of}
use Rattle.node_lumps.specs.Format.{lump_of}
use Rattle.node_lumps.specs.declared.format.NodeLump.TheVariants.{Nodes}
use Rattle.node_lumps.specs.declared.records.LaterSeg.{LaterSeg}
use Rattle.node_lumps.specs.declared.records.LaterSsector.{LaterSsector}
use Rattle.node_lumps.specs.declared.records.SegLine.{SegLine}
use Rattle.node_tree.specs.Wider.{AreWider}
use Rattle.later_levels.specs.LaterLevel.{LaterLevel}

-- the numbers of a seg's linedef and side are the same
pub record IsWiderLine (seg : Seg) (line : SegLine) : Type 0 where
  pub linedef : seg.linedef ≡ pos line.linedef
  pub side : seg.side ≡ line.side

-- the numbers of a seg are the same
pub record IsWiderSeg (seg : Seg) (wider : LaterSeg) : Type 0 where
  pub v1 : seg.v1 ≡ pos wider.v1
  pub v2 : IsSomeAnd wider.v2 (λ v. seg.v2 ≡ pos v)
  pub line : IsSomeAnd wider.line (IsWiderLine seg)

pub record IsWiderSsector (ssector : SSector) (wider : LaterSsector) : Type 0 where
  pub first : ssector.first ≡ pos wider.first
  pub count : ssector.count ≡ pos wider.count

-- what a level has besides its nodes is the same, and its nodes, ssectors and segs are written wider
pub record IsWider (level : Level) (one : LaterLevel) : Type 0 where
  pub reading : one.level.reading ≡ level.reading
  pub linedefs : one.level.linedefs ≡ level.linedefs
  pub sidedefs : one.level.sidedefs ≡ level.sidedefs
  pub sectors : one.level.sectors ≡ level.sectors
  pub nodes : AreWider level one.later
  pub format : lump_of one.later.format ≡ Nodes
  pub segs : length one.later.segs ≡ length (segs_of level)
  pub seg : (i : ℕ) (seg : Seg) → slice_get (segs_of level) i ≡ Some seg → IsSomeAnd (slice_get one.later.segs i) (IsWiderSeg seg)
  pub ssector : (t : ℕ) (ssector : SSector) → slice_get (ssectors_of level) t ≡ Some ssector
      → IsSomeAnd (slice_get one.later.ssectors t) (IsWiderSsector ssector)
