-- A level as contracts see it (P_SetupLevel of p_setup.c).
use Rattle.std.specs.Prelude.{ℕ, ◌-◌, ◌*◌, ◌<◌, ◌^◌, List, [], ◌∷◌, length, slice_index_or, take, All}
use Rattle.le_rec.specs.Record.{thing, linedef, sidedef, vertex, seg, ssector, node, sector}
use Rattle.le_rec.specs.Table.{Rows, rows_of}
use Rattle.le_rec.specs.declared.records.Thing.{Thing}
use Rattle.le_rec.specs.declared.records.LineDef.{LineDef}
use Rattle.le_rec.specs.declared.records.SideDef.{SideDef}
use Rattle.le_rec.specs.declared.records.Vertex.{Vertex}
use Rattle.le_rec.specs.declared.records.Seg.{Seg}
use Rattle.le_rec.specs.declared.records.SSector.{SSector}
use Rattle.le_rec.specs.declared.records.Node.{Node}
use Rattle.le_rec.specs.declared.records.Sector.{Sector}
use Rattle.map_level.specs.declared.reading.Reading.{Reading}

-- the label's number and reading, the names of the label and the ten lumps, the signed records of
-- the eight tables, and the bytes of the last two lumps
pub record Level : Type 0 where
  pub label : ℕ
  pub reading : Reading
  pub names : List (List ℕ)
  pub things : Rows Thing
  pub linedefs : Rows LineDef
  pub sidedefs : Rows SideDef
  pub vertexes : Rows Vertex
  pub segs : Rows Seg
  pub ssectors : Rows SSector
  pub nodes : Rows Node
  pub sectors : Rows Sector
  pub reject : List ℕ
  pub blockmap : List ℕ

-- the bytes of lump k, of the ten after a label
abbrev pub lump_of : List (List ℕ) → ℕ → List ℕ
lump_of lumps k = slice_index_or lumps (k - 1) []

-- the level that ten lumps hold, by their places after the label (ML_THINGS
-- to ML_BLOCKMAP of doomdata.h)
abbrev pub level_of : ℕ → Reading → List (List ℕ) → List (List ℕ) → Level
level_of label reading names lumps = record {
  label = label;
  reading = reading;
  names = names;
  things = rows_of 10 thing (lump_of lumps 1);
  linedefs = rows_of 14 linedef (lump_of lumps 2);
  sidedefs = rows_of 30 sidedef (lump_of lumps 3);
  vertexes = rows_of 4 vertex (lump_of lumps 4);
  segs = rows_of 12 seg (lump_of lumps 5);
  ssectors = rows_of 4 ssector (lump_of lumps 6);
  nodes = rows_of 28 node (lump_of lumps 7);
  sectors = rows_of 26 sector (lump_of lumps 8);
  reject = lump_of lumps 9;
  blockmap = lump_of lumps 10;
}

-- a table of these records, with nothing left over
abbrev pub rows_alone : {R : Type 0} → List R → Rows R
rows_alone records = record { records = records; rest = 0 }

-- what a level has besides its nodes, where these stand in a later format: the first so many vertexes, with which they go,
-- and no segs, ssectors and nodes; of these four lumps nothing is left over (P_LoadZNodes of dsda-doom's p_setup.c)
abbrev pub bare_of : Level → ℕ → Level
bare_of level count = record level {
  vertexes = rows_alone (take count level.vertexes.records);
  segs = rows_alone [];
  ssectors = rows_alone [];
  nodes = rows_alone [];
}

-- the ten lumps of such a level: of VERTEXES four bytes a vertex, and nothing of SEGS, SSECTORS and NODES
abbrev pub bare_lumps_of : List (List ℕ) → ℕ → List (List ℕ)
bare_lumps_of lumps count =
    lump_of lumps 1 ∷ lump_of lumps 2 ∷ lump_of lumps 3 ∷ take (4 * count) (lump_of lumps 4) ∷ [] ∷ [] ∷ []
    ∷ lump_of lumps 8 ∷ lump_of lumps 9 ∷ lump_of lumps 10 ∷ []

-- lumps of fewer than 2 to the 31 bytes each, since a size has 31 bits
abbrev pub AreShort : List (List ℕ) → Type 0
AreShort lumps = All (λ lump. length lump < 2 ^ 31) lumps
