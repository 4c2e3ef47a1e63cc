-- What can be read of a level, as numbers for a host (ours).
use Rattle.std.specs.Prelude.{◌≡◌, ℕ, ◌/◌, ◌%◌, ℤ, pos, negsuc, ◌*ℤ◌, int_div, List, [], ◌∷◌, ◌++◌, length, Option, Some, None, if◌then◌else◌}
use Rattle.std.specs.List.{flat_map, range_with_len}
use Rattle.std.specs.Ordering.{int_eq}
use Rattle.le_rec.specs.Record.{sector, sidedef, vertex}
use Rattle.le_rec.specs.Table.{records_of}
use Rattle.le_rec.specs.declared.records.SideDef.{SideDef}
use Rattle.le_rec.specs.declared.records.Vertex.{Vertex}
use Rattle.map_level.specs.Links.{named, ◌>>=◌}
use Rattle.map_level.specs.Reading.{number_of}
use Rattle.map_level.specs.SectorOf.{number_named}
use Rattle.map_level.specs.declared.reading.Reading.TheVariants.{Wide}
use Rattle.wad_dir.specs.Wad.{Wad}
use Rattle.map_sketch.specs.Records.{linedef_size, links_at, spot_at, thing_size}
use Rattle.map_sketch.specs.Sketch.{IsSketch, bytes_of}
use Rattle.map_sketch.specs.declared.numbers.Ends.{Ends}
use Rattle.map_sketch.specs.declared.records.Form.{Form}
use Rattle.map_sketch.specs.declared.records.Form.TheVariants.{Doom, Hexen}
use Rattle.map_sketch.specs.declared.records.Links.{Links}
use Rattle.map_sketch.specs.declared.records.Spot.{Spot}
use Rattle.map_sketch.specs.declared.sketch.Lump.{Lump}
use Rattle.map_sketch.specs.declared.sketch.Lump.TheVariants.{Lacking, Outside, Whole}
use Rattle.map_sketch.specs.declared.sketch.Sketch.{Sketch}

-- what stands for a number that isn't there: the least of 32 bits
abbrev pub not_there : ℤ
not_there = negsuc 2147483647

-- 0 for Doom's records, and 1 for Hexen's
abbrev pub form_number : Form → ℤ
form_number Doom = pos 0
form_number Hexen = pos 1

-- three numbers of a lump with records of a size: its place behind the label, how many records are whole, and how many bytes are left over.
-- Of one that isn't inside its file the place alone is there, and of one that the level hasn't nothing
abbrev pub lump_numbers : ℕ → Lump → List ℤ
lump_numbers size Lacking = not_there ∷ not_there ∷ not_there ∷ []
lump_numbers size (Outside k) = pos k ∷ not_there ∷ not_there ∷ []
lump_numbers size (Whole k bytes) = pos k ∷ pos (length bytes.now / size) ∷ pos (length bytes.now % size) ∷ []

-- the first sixteen numbers: the form, and three of each lump
abbrev pub head_numbers : Sketch → List ℤ
head_numbers sketch =
    form_number sketch.form ∷ []
    ++ lump_numbers (thing_size sketch.form) sketch.things
    ++ lump_numbers (linedef_size sketch.form) sketch.linedefs
    ++ lump_numbers 30 sketch.sidedefs
    ++ lump_numbers 4 sketch.vertexes
    ++ lump_numbers 26 sketch.sectors

-- what words name, read as numbers from 0 to 65535, as ports do: a vertex
abbrev pub vertex_named : Sketch → ℤ → Option Vertex
vertex_named sketch word = named (records_of 4 vertex (bytes_of sketch.vertexes)) (number_of Wide word)

-- a sidedef
abbrev pub sidedef_named : Sketch → ℤ → Option SideDef
sidedef_named sketch word = named (records_of 30 sidedef (bytes_of sketch.sidedefs)) (number_of Wide word)

-- and the sector of that
abbrev pub sector_named : Sketch → ℤ → Option ℕ
sector_named sketch word = do
  side ← sidedef_named sketch word
  number_named (length (records_of 26 sector (bytes_of sketch.sectors))) (number_of Wide side.sector)

-- a linedef's vertexes, where both are there
abbrev pub ends_of : Sketch → Links → Option Ends
ends_of sketch links = do
  from ← vertex_named sketch links.v1
  to ← vertex_named sketch links.v2
  Some (record { from = from; to = to })

abbrev pub place_numbers : Option Ends → List ℤ
place_numbers (Some ends) = ends.from.x ∷ ends.from.y ∷ ends.to.x ∷ ends.to.y ∷ []
place_numbers None = not_there ∷ not_there ∷ not_there ∷ not_there ∷ []

abbrev pub sector_number : Option ℕ → ℤ
sector_number (Some s) = pos s
sector_number None = negsuc 0

-- a side of a linedef by its word: the sector there, -1 where the sidedef or its sector isn't there, and nothing where there is no side
abbrev pub side_number : Sketch → ℤ → ℤ
side_number sketch word = if int_eq word (negsuc 0) then not_there else sector_number (sector_named sketch word)

-- six numbers of what a linedef names: x y x y of its vertexes, and its sides in front and at the back
abbrev pub links_numbers : Sketch → Links → List ℤ
links_numbers sketch links =
    place_numbers (ends_of sketch links)
    ++ (side_number sketch links.side0 ∷ side_number sketch links.side1 ∷ [])

abbrev pub linedef_numbers : Sketch → ℕ → List ℤ
linedef_numbers sketch i = links_numbers sketch (links_at sketch.form (bytes_of sketch.linedefs) i)

-- those of all linedefs
abbrev pub linedefs_numbers : Sketch → List ℤ
linedefs_numbers sketch =
    flat_map (linedef_numbers sketch) (range_with_len 0 (length (bytes_of sketch.linedefs) / linedef_size sketch.form))

-- by how many degrees a thing is turned from east towards north: whole eighths (P_SpawnMapThing: ANG45 * (angle / 45))
abbrev pub turn_of : ℤ → ℤ
turn_of angle = int_div angle (pos 45) *ℤ pos 45

-- four numbers of a thing: its place, its turn and its kind
abbrev pub spot_numbers : Spot → List ℤ
spot_numbers spot = spot.x ∷ spot.y ∷ turn_of spot.angle ∷ spot.kind ∷ []

abbrev pub thing_numbers : Sketch → ℕ → List ℤ
thing_numbers sketch i = spot_numbers (spot_at sketch.form (bytes_of sketch.things) i)

abbrev pub things_numbers : Sketch → List ℤ
things_numbers sketch = flat_map (thing_numbers sketch) (range_with_len 0 (length (bytes_of sketch.things) / thing_size sketch.form))

-- all numbers of a sketch
abbrev pub sketch_numbers : Sketch → List ℤ
sketch_numbers sketch = head_numbers sketch ++ linedefs_numbers sketch ++ things_numbers sketch

-- these are the numbers of what can be read of the level whose label is an entry
pub record Sketches (files : List Wad) (g : ℕ) (numbers : List ℤ) : Type 0 where
  pub sketch : Sketch
  pub is : IsSketch files g sketch
  pub are : numbers ≡ sketch_numbers sketch
