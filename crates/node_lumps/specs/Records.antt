-- The records of later nodes, each field at its offset (FProcessor::WriteVerticesX, WriteSegsX, WriteGLSegsX and WriteNodesX of zdbsp; P_LoadSegs_V4,
-- P_LoadSubsectors_V4 and P_LoadNodes_V4 of dsda-doom's p_setup.c).
use Rattle.std.specs.Prelude.{ℕ, ◌-◌, ℤ, pos, ◌*ℤ◌, ◌==◌, nat_lt, if◌then◌else◌, Option, Some, None, List, slice_index}
use Rattle.le_rec.specs.Number.{signed16_at, signed32_at, unsigned16_at}
use Rattle.le_rec.specs.declared.records.Vertex.{Vertex}
use Rattle.node_lumps.specs.Number.{unsigned32_at}
use Rattle.node_lumps.specs.declared.format.NodeFormat.{NodeFormat}
use Rattle.node_lumps.specs.declared.format.NodeFormat.TheVariants.{Xnod, Xgln, Xgl2, Xnd4}
use Rattle.node_lumps.specs.declared.records.FineVertex.{FineVertex}
use Rattle.node_lumps.specs.declared.records.LaterNode.{LaterNode}
use Rattle.node_lumps.specs.declared.records.LaterSeg.{LaterSeg}
use Rattle.node_lumps.specs.declared.records.LaterSsector.{LaterSsector}
use Rattle.node_lumps.specs.declared.records.NodeChild.{NodeChild}
use Rattle.node_lumps.specs.declared.records.NodeChild.TheVariants.{Node, Ssector}
use Rattle.node_lumps.specs.declared.records.SegLine.{SegLine}

-- a new vertex, in 65536ths of a unit
abbrev pub fine_vertex : List ℕ → FineVertex
fine_vertex bytes = record { x = signed32_at bytes 0; y = signed32_at bytes 4 }

-- a record of VERTEXES in 65536ths of a unit
abbrev pub whole_vertex : Vertex → FineVertex
whole_vertex vertex = record { x = vertex.x *ℤ pos 65536; y = vertex.y *ℤ pos 65536 }

-- an ssector of DeePBSP
abbrev pub deep_ssector : List ℕ → LaterSsector
deep_ssector bytes = record { first = unsigned32_at bytes 2; count = unsigned16_at bytes 0 }

-- a word below 2147483648 names a node, another is 2147483648 above an ssector's number
abbrev pub child_of : ℕ → NodeChild
child_of word = if nat_lt word 2147483648 then Node word else Ssector (word - 2147483648)

-- a node of any of the formats; its boxes aren't read
abbrev pub later_node : List ℕ → LaterNode
later_node bytes = record {
  x = signed16_at bytes 0;
  y = signed16_at bytes 2;
  dx = signed16_at bytes 4;
  dy = signed16_at bytes 6;
  front = child_of (unsigned32_at bytes 24);
  back = child_of (unsigned32_at bytes 28);
}

-- a seg of a linedef; of a miniseg, which has no linedef, the side isn't read
abbrev pub line_unless : ℕ → ℕ → ℤ → Option SegLine
line_unless none linedef side =
    if linedef == none then None else Some (record { linedef = linedef; side = side })

-- a seg of XNOD
abbrev pub xnod_seg : List ℕ → LaterSeg
xnod_seg bytes = record {
  v1 = unsigned32_at bytes 0;
  v2 = Some (unsigned32_at bytes 4);
  line = Some (record { linedef = unsigned16_at bytes 8; side = pos (slice_index bytes 10) });
}

-- of XGLN: its partner isn't read
abbrev pub gl_seg : List ℕ → LaterSeg
gl_seg bytes = record {
  v1 = unsigned32_at bytes 0;
  v2 = None;
  line = line_unless 65535 (unsigned16_at bytes 8) (pos (slice_index bytes 10));
}

-- of XGL2
abbrev pub gl2_seg : List ℕ → LaterSeg
gl2_seg bytes = record {
  v1 = unsigned32_at bytes 0;
  v2 = None;
  line = line_unless 4294967295 (unsigned32_at bytes 8) (pos (slice_index bytes 12));
}

-- of xNd4: its angle and its offset aren't read
abbrev pub deep_seg : List ℕ → LaterSeg
deep_seg bytes = record {
  v1 = unsigned32_at bytes 0;
  v2 = Some (unsigned32_at bytes 4);
  line = Some (record { linedef = unsigned16_at bytes 10; side = signed16_at bytes 12 });
}

abbrev pub later_seg : NodeFormat → List ℕ → LaterSeg
later_seg Xnod bytes = xnod_seg bytes
later_seg Xgln bytes = gl_seg bytes
later_seg Xgl2 bytes = gl2_seg bytes
later_seg Xnd4 bytes = deep_seg bytes
