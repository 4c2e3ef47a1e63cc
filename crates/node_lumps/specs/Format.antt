-- Formats of later nodes, by their tags (FProcessor::WriteBSPX and WriteGLBSPX of zdbsp; P_LoadNodes_V4 of dsda-doom's p_setup.c).
use Rattle.std.specs.Prelude.{Bool, true, false, ℕ, List, Option, Some, None, codes, nat_eq, if◌then◌else◌}
use Rattle.std.specs.List.{starts_with}
use Rattle.node_lumps.specs.declared.format.NodeFormat.{NodeFormat}
use Rattle.node_lumps.specs.declared.format.NodeFormat.TheVariants.{Xnod, Xgln, Xgl2, Xnd4}
use Rattle.node_lumps.specs.declared.format.NodeLump.{NodeLump}
use Rattle.node_lumps.specs.declared.format.NodeLump.TheVariants.{Nodes, Ssectors}

-- the format whose tag bytes begin with; XGL3 and the compressed formats aren't read
abbrev pub format_of : List ℕ → Option NodeFormat
format_of tag =
    if starts_with nat_eq tag (codes "XNOD") then Some Xnod
    else (if starts_with nat_eq tag (codes "XGLN") then Some Xgln
    else (if starts_with nat_eq tag (codes "XGL2") then Some Xgl2
    else (if starts_with nat_eq tag (codes "xNd4") then Some Xnd4 else None)))

-- the lump that has the tag
abbrev pub lump_of : NodeFormat → NodeLump
lump_of Xnod = Nodes
lump_of Xgln = Ssectors
lump_of Xgl2 = Ssectors
lump_of Xnd4 = Nodes

abbrev pub lump_name : NodeLump → List ℕ
lump_name Nodes = codes "NODES"
lump_name Ssectors = codes "SSECTORS"

-- the bytes of a seg
abbrev pub seg_size : NodeFormat → ℕ
seg_size Xnod = 11
seg_size Xgln = 11
seg_size Xgl2 = 13
seg_size Xnd4 = 16

-- an ssector has the number of its segs alone; DeePBSP's has its first seg besides
abbrev pub is_counted : NodeFormat → Bool
is_counted Xnod = true
is_counted Xgln = true
is_counted Xgl2 = true
is_counted Xnd4 = false
