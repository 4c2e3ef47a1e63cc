-- What the lumps of a level hold of nodes in a later format, or why these are broken (P_LoadZNodes and P_LoadNodes_V4 of dsda-doom's p_setup.c).
use Rattle.std.specs.Prelude.{◌≡◌, ◌≢◌, ℕ, ◌-◌, ◌*◌, ◌/◌, ◌%◌, ◌<◌, ◌≤◌, List, [], length, drop, sum}
use Rattle.node_lumps.specs.Format.{lump_of, seg_size}
use Rattle.node_lumps.specs.Later.{Later, counts_of, later_of}
use Rattle.node_lumps.specs.Number.{unsigned32_at}
use Rattle.node_lumps.specs.Parts.{HasParts, IsCutIn, Parts}
use Rattle.node_lumps.specs.declared.broken.Broken.{Broken}
use Rattle.node_lumps.specs.declared.broken.Broken.TheVariants.{EndsWithin, Segs, Vertexes}
use Rattle.node_lumps.specs.declared.format.NodeFormat.{NodeFormat}
use Rattle.node_lumps.specs.declared.format.NodeFormat.TheVariants.{Xnod, Xgln, Xgl2, Xnd4}
use Rattle.node_lumps.specs.declared.format.NodeLump.{NodeLump}
use Rattle.node_lumps.specs.declared.format.NodeLump.TheVariants as node_lump
use Rattle.node_lumps.specs.declared.lumps.NodeLumps.{NodeLumps}
use Rattle.node_lumps.specs.declared.lumps.LeftOver.{LeftOver}

-- the bytes of the lumps
pub record Lumps : Type 0 where
  pub vertexes : List ℕ
  pub segs : List ℕ
  pub ssectors : List ℕ
  pub nodes : List ℕ

abbrev pub lumps_of : NodeLumps → Lumps
lumps_of lumps = record {
  vertexes = lumps.vertexes.now;
  segs = lumps.segs.now;
  ssectors = lumps.ssectors.now;
  nodes = lumps.nodes.now;
}

abbrev pub lump_in : NodeLump → Lumps → List ℕ
lump_in node_lump.Nodes lumps = lumps.nodes
lump_in node_lump.Ssectors lumps = lumps.ssectors

-- with how many vertexes of VERTEXES the nodes go, and how many there are
abbrev pub made_for : List ℕ → ℕ
made_for lump = unsigned32_at lump 4

abbrev pub vertex_count : List ℕ → ℕ
vertex_count vertexes = length vertexes / 4

-- how many segs the ssectors have, all added up, and how many there are
abbrev pub counted_segs : Parts → ℕ
counted_segs parts = sum (counts_of parts.ssectors)

abbrev pub seg_count : NodeFormat → Parts → ℕ
seg_count format parts = length parts.segs / seg_size format

-- the bytes behind the vertexes that the level has, and those behind the nodes
abbrev pub left_by : NodeLump → ℕ → ℕ → LeftOver
left_by node_lump.Nodes vertexes rest = record { vertexes = vertexes; segs = 0; ssectors = 0; nodes = rest }
left_by node_lump.Ssectors vertexes rest = record { vertexes = vertexes; segs = 0; ssectors = rest; nodes = 0 }

-- what the parts of a lump hold
abbrev pub joined_nodes : NodeFormat → List ℕ → List ℕ → Parts → Later
joined_nodes format vertexes lump parts =
    later_of format (made_for lump) vertexes parts.vertexes parts.ssectors parts.segs parts.nodes
    (left_by (lump_of format) (length vertexes - 4 * made_for lump) (length parts.rest))

-- a lump and VERTEXES hold all nodes of a level
pub record AreJoinedNodes (format : NodeFormat) (vertexes lump : List ℕ) (later : Later) : Type 0 where
  pub parts : Parts
  pub whole : HasParts format lump parts
  pub summed : counted_segs parts ≡ seg_count format parts
  pub made : made_for lump ≤ vertex_count vertexes
  pub reads : later ≡ joined_nodes format vertexes lump parts

-- their ssectors have more or fewer segs than are there
pub record MissCount (format : NodeFormat) (lump : List ℕ) (counted there : ℕ) : Type 0 where
  pub parts : Parts
  pub whole : HasParts format lump parts
  pub added : counted ≡ counted_segs parts
  pub found : there ≡ seg_count format parts
  pub apart : counted ≢ there

-- they go with more vertexes than are there
pub record MissVertexes (format : NodeFormat) (vertexes lump : List ℕ) (made there : ℕ) : Type 0 where
  pub parts : Parts
  pub whole : HasParts format lump parts
  pub summed : counted_segs parts ≡ seg_count format parts
  pub wanted : made ≡ made_for lump
  pub found : there ≡ vertex_count vertexes
  pub past : there < made

-- why a lump and VERTEXES hold no nodes: the first reason that holds
abbrev pub IsJoinedBroken : NodeFormat → List ℕ → List ℕ → Broken → Type 0
IsJoinedBroken format vertexes lump (EndsWithin named part) =
    (named ≡ lump_of format) × IsCutIn format lump part
IsJoinedBroken format vertexes lump (Segs counted there) = MissCount format lump counted there
IsJoinedBroken format vertexes lump (Vertexes made there) = MissVertexes format vertexes lump made there

-- the nodes of DeePBSP: three tables, the nodes behind eight bytes
abbrev pub deep_nodes : Lumps → Later
deep_nodes lumps =
    later_of Xnd4 (vertex_count lumps.vertexes) lumps.vertexes [] lumps.ssectors lumps.segs
    (drop 8 lumps.nodes)
    (record {
      vertexes = length lumps.vertexes % 4;
      segs = length lumps.segs % 16;
      ssectors = length lumps.ssectors % 6;
      nodes = length (drop 8 lumps.nodes) % 32;
    })

-- the lumps of a level hold nodes of a format
abbrev pub AreNodes : NodeFormat → Lumps → Later → Type 0
AreNodes Xnod lumps later = AreJoinedNodes Xnod lumps.vertexes lumps.nodes later
AreNodes Xgln lumps later = AreJoinedNodes Xgln lumps.vertexes lumps.ssectors later
AreNodes Xgl2 lumps later = AreJoinedNodes Xgl2 lumps.vertexes lumps.ssectors later
AreNodes Xnd4 lumps later = later ≡ deep_nodes lumps

-- why they hold none; DeePBSP's always do
abbrev pub AreBroken : NodeFormat → Lumps → Broken → Type 0
AreBroken Xnod lumps why = IsJoinedBroken Xnod lumps.vertexes lumps.nodes why
AreBroken Xgln lumps why = IsJoinedBroken Xgln lumps.vertexes lumps.ssectors why
AreBroken Xgl2 lumps why = IsJoinedBroken Xgl2 lumps.vertexes lumps.ssectors why
AreBroken Xnd4 lumps why = ⊥
