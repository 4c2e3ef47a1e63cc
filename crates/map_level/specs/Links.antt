-- The records of a level under its reading, and what their indexes name (P_LoadLineDefs and P_LoadSegs of p_setup.c).
use Rattle.std.specs.Prelude.{ℕ, ◌<◌, ℤ, pos, negsuc, List, length, map, Option, Some, None, option_and_then, if◌then◌else◌}
use Rattle.std.specs.Ordering.{int_eq}
use Rattle.std.specs.List.{slice_get}
use Rattle.le_rec.specs.declared.records.Thing.{Thing}
use Rattle.le_rec.specs.declared.records.LineDef.{LineDef}
use Rattle.le_rec.specs.declared.records.SideDef.{SideDef}
use Rattle.le_rec.specs.declared.records.Vertex.{Vertex}
use Rattle.le_rec.specs.declared.records.Seg.{Seg}
use Rattle.le_rec.specs.declared.records.SSector.{SSector}
use Rattle.le_rec.specs.declared.records.Node.{Node}
use Rattle.le_rec.specs.declared.records.Sector.{Sector}
use Rattle.map_level.specs.Level.{Level}
use Rattle.map_level.specs.Reading.{linedef_under, sidedef_under, seg_under, ssector_under}
use Rattle.map_level.specs.declared.reading.Reading.{Reading}
use Rattle.map_level.specs.declared.reading.Reading.TheVariants.{Signed, Wide}

-- the records of a level's eight tables under its reading, which changes four of them
abbrev pub things_of : Level → List Thing
things_of level = level.things.records

abbrev pub linedefs_of : Level → List LineDef
linedefs_of level = map (linedef_under level.reading) level.linedefs.records

abbrev pub sidedefs_of : Level → List SideDef
sidedefs_of level = map (sidedef_under level.reading) level.sidedefs.records

abbrev pub vertexes_of : Level → List Vertex
vertexes_of level = level.vertexes.records

abbrev pub segs_of : Level → List Seg
segs_of level = map (seg_under level.reading) level.segs.records

abbrev pub ssectors_of : Level → List SSector
ssectors_of level = map (ssector_under level.reading) level.ssectors.records

abbrev pub nodes_of : Level → List Node
nodes_of level = level.nodes.records

abbrev pub sectors_of : Level → List Sector
sectors_of level = level.sectors.records

-- the record that an index names: the one of that number
abbrev pub named : {X : Type 0} → List X → ℤ → Option X
named records (pos n) = slice_get records n
named records (negsuc n) = None

-- an index names one of so many records: it is not negative and below their number
abbrev pub Names : ℕ → ℤ → Type 0
Names count (pos n) = n < count
Names count (negsuc n) = ⊥

-- an index names none of the records
abbrev pub NamesNone : {X : Type 0} → List X → ℤ → Type 0
NamesNone records index = ¬ Names (length records) index

-- the index that says that there is no side
abbrev pub no_side : Reading → ℤ
no_side Signed = negsuc 0
no_side Wide = pos 65535

-- the linedef of a seg
abbrev pub linedef_of : Level → Seg → Option LineDef
linedef_of level seg = named (linedefs_of level) seg.linedef

-- the index that a linedef has at a side number, where that is 0 or 1
abbrev pub side_at : LineDef → ℤ → Option ℤ
side_at linedef side =
    if int_eq side (pos 0)
    then Some linedef.side0
    else (if int_eq side (pos 1) then Some linedef.side1 else None)

infixl 10 ◌>>=◌
abbrev pub ◌>>=◌ : {A B : Type 0} → Option A → (A → Option B) → Option B
o >>= f = option_and_then f o

-- the index of a seg's sidedef: that of its linedef at the seg's side number
abbrev pub side_of : Level → Seg → Option ℤ
side_of level seg = do
  linedef ← linedef_of level seg
  side_at linedef seg.side
