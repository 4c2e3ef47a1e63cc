-- The nodes of a level in a later format (ours).
use Rattle.std.specs.Prelude.{◌≡◌, ℕ, ◌+◌, ◌-◌, ◌<◌, nat_lt, if◌then◌else◌, Option, Some, option_and_then, List, [], length, take, map, sum, slice_index}
use Rattle.std.specs.List.{range_with_len, slice_get}
use Rattle.std.specs.Option.{option_map, option_or}
use Rattle.le_rec.specs.Record.{vertex}
use Rattle.le_rec.specs.Table.{records_of}
use Rattle.le_rec.specs.declared.records.Vertex.{Vertex}
use Rattle.node_lumps.specs.Format.{is_counted, seg_size}
use Rattle.node_lumps.specs.Number.{unsigned32_at}
use Rattle.node_lumps.specs.Records.{deep_ssector, fine_vertex, later_node, later_seg, whole_vertex}
use Rattle.node_lumps.specs.declared.format.NodeFormat.{NodeFormat}
use Rattle.node_lumps.specs.declared.lumps.LeftOver.{LeftOver}
use Rattle.node_lumps.specs.declared.records.FineVertex.{FineVertex}
use Rattle.node_lumps.specs.declared.records.LaterNode.{LaterNode}
use Rattle.node_lumps.specs.declared.records.LaterSeg.{LaterSeg}
use Rattle.node_lumps.specs.declared.records.LaterSsector.{LaterSsector}

-- the vertexes of VERTEXES that the level has, the new ones, and the rest
pub record Later : Type 0 where
  pub format : NodeFormat
  pub vertexes : List Vertex
  pub new_vertexes : List FineVertex
  pub ssectors : List LaterSsector
  pub segs : List LaterSeg
  pub nodes : List LaterNode
  pub left : LeftOver

-- how many segs each ssector has, four bytes a number
abbrev pub counts_of : List ℕ → List ℕ
counts_of bytes = records_of 4 (λ piece. unsigned32_at piece 0) bytes

-- the first seg of an ssector is the number of all segs of the ssectors before it
abbrev pub counted_ssector : List ℕ → ℕ → LaterSsector
counted_ssector counts t = record { first = sum (take t counts); count = slice_index counts t }

abbrev pub counted_ssectors : List ℕ → List LaterSsector
counted_ssectors counts = map (counted_ssector counts) (range_with_len 0 (length counts))

-- the ssectors of a table; under xNd4 the first seg of each is as given
abbrev pub ssectors_of : NodeFormat → List ℕ → List LaterSsector
ssectors_of format bytes =
    if is_counted format then counted_ssectors (counts_of bytes) else records_of 6 deep_ssector bytes

-- the numbers of segs from which first segs follow
abbrev pub counts_in : NodeFormat → List ℕ → List ℕ
counts_in format bytes = if is_counted format then counts_of bytes else []

-- the first segs of ssectors with so many segs
pub record AreFirsts (counts firsts : List ℕ) : Type 0 where
  pub long : length firsts ≡ length counts
  pub each : (t : ℕ) → t < length counts → slice_get firsts t ≡ Some (sum (take t counts))

-- the nodes with so many vertexes of VERTEXES whose tables are these bytes
abbrev pub later_of : NodeFormat → ℕ → List ℕ → List ℕ → List ℕ → List ℕ → List ℕ → LeftOver → Later
later_of format count vertexes new_vertexes ssectors segs nodes left = record {
  format = format;
  vertexes = take count (records_of 4 vertex vertexes);
  new_vertexes = records_of 8 fine_vertex new_vertexes;
  ssectors = ssectors_of format ssectors;
  segs = records_of (seg_size format) (later_seg format) segs;
  nodes = records_of 32 later_node nodes;
  left = left;
}

-- a number below that of the level's vertexes names one of these, another a new one
abbrev pub vertex_of : Later → ℕ → Option FineVertex
vertex_of later k =
    if nat_lt k (length later.vertexes) then option_map whole_vertex (slice_get later.vertexes k)
    else slice_get later.new_vertexes (k - length later.vertexes)

-- the seg behind one in its ssector; behind the last one stands the first
abbrev pub next_seg : LaterSsector → ℕ → ℕ
next_seg ssector i = if nat_lt (i + 1) (ssector.first + ssector.count) then i + 1 else ssector.first

-- the vertex where a seg of an ssector ends: its own, or where the next seg starts
abbrev pub end_of : Later → LaterSsector → ℕ → Option ℕ
end_of later ssector i =
    option_and_then
    (λ seg. option_or seg.v2 (option_map (λ next. next.v1) (slice_get later.segs (next_seg ssector i))))
    (slice_get later.segs i)
