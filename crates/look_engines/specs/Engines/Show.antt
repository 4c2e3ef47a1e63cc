-- The command `show`: its text (ours), and what its run does.
use Rattle.std.specs.Prelude.{◌≡◌, ℕ, ◌+◌, ℤ, List, [], ◌∷◌, ◌++◌, length, slice_index_or, Result, codes}
use Rattle.std.specs.Fmt.{decimal, signed_decimal}
use Rattle.std.specs.List.{flat_map}
use Rattle.le_rec.specs.Layout.{Field, i16, u16, i32, magic, name, bounds, Value, Values, Layout}
use Rattle.le_rec.specs.Name.{name_of, shown_name}
use Rattle.le_rec.specs.Record.{thing_layout, linedef_layout, sidedef_layout, vertex_layout, seg_layout, ssector_layout, node_layout, sector_layout}
use Rattle.le_rec.specs.Sink.{SinkState}
use Rattle.line_io.specs.Writes.{Writes}
use Rattle.map_level.specs.Level.{Level}
use Rattle.map_level.specs.Links.{things_of, linedefs_of, sidedefs_of, vertexes_of, segs_of, ssectors_of, nodes_of, sectors_of}
use Rattle.map_level.specs.declared.reading.Reading.{Reading}
use Rattle.look_engines.specs.Opening.{IsOpened, RefusesName}
use Rattle.look_engines.specs.Runs.{Runs}
use Rattle.look_engines.specs.declared.fault.RunFault.{RunFault}

-- a space and a number
abbrev pub number_text : ℤ → List ℕ
number_text number = codes " " ++ signed_decimal number

-- the same of numbers one after another
abbrev pub numbers_text : List ℤ → List ℕ
numbers_text numbers = flat_map number_text numbers

-- a space and a name as it is shown
abbrev pub name_text : List ℕ → List ℕ
name_text bytes = codes " " ++ shown_name (name_of bytes)

-- what a field holds, a space before it: a number, a magic or a name as it is shown, or the four numbers of a box
abbrev pub field_text : (field : Field) → Value field → List ℕ
field_text i16 number = number_text number
field_text u16 number = codes " " ++ decimal number
field_text i32 number = number_text number
field_text magic bytes = name_text bytes
field_text name bytes = name_text bytes
field_text bounds box = numbers_text box

-- the same of fields one after another
abbrev pub fields_text : (fields : List Field) → Values fields → List ℕ
fields_text [] values = []
fields_text (field ∷ fields) (value, values) = field_text field value ++ fields_text fields values

-- the fields of a record
abbrev pub record_text : {R : Type 0} → Layout R → R → List ℕ
record_text layout r = fields_text layout.fields (layout.values r)

-- a record's line: its number and its fields
abbrev pub record_line : {R : Type 0} → Layout R → ℕ → R → List ℕ
record_line layout index r = decimal index ++ (record_text layout r ++ 10 ∷ [])

-- the lines of records, numbered on from an index
abbrev pub record_lines : {R : Type 0} → Layout R → ℕ → List R → List ℕ
record_lines layout index [] = []
record_lines layout index (r ∷ records) = record_line layout index r ++ record_lines layout (index + 1) records

-- `<lump> <number of records> rest <bytes left over>`
abbrev pub table_line : List ℕ → ℕ → ℕ → List ℕ
table_line lump count rest = lump ++ (codes " " ++ (decimal count ++ (codes " rest " ++ (decimal rest ++ 10 ∷ []))))

-- the text of a table
abbrev pub table_text : {R : Type 0} → Layout R → List ℕ → List R → ℕ → List ℕ
table_text layout lump records rest = table_line lump (length records) rest ++ record_lines layout 0 records

-- `<lump> <bytes>`
abbrev pub bytes_line : List ℕ → ℕ → List ℕ
bytes_line lump count = lump ++ (codes " " ++ (decimal count ++ 10 ∷ []))

-- the texts of the ten lumps, in order
abbrev pub lump_texts : Level → List (List ℕ)
lump_texts level =
    table_text thing_layout (codes "THINGS") (things_of level) level.things.rest
    ∷ table_text linedef_layout (codes "LINEDEFS") (linedefs_of level) level.linedefs.rest
    ∷ table_text sidedef_layout (codes "SIDEDEFS") (sidedefs_of level) level.sidedefs.rest
    ∷ table_text vertex_layout (codes "VERTEXES") (vertexes_of level) level.vertexes.rest
    ∷ table_text seg_layout (codes "SEGS") (segs_of level) level.segs.rest
    ∷ table_text ssector_layout (codes "SSECTORS") (ssectors_of level) level.ssectors.rest
    ∷ table_text node_layout (codes "NODES") (nodes_of level) level.nodes.rest
    ∷ table_text sector_layout (codes "SECTORS") (sectors_of level) level.sectors.rest
    ∷ bytes_line (codes "REJECT") (length level.reject)
    ∷ bytes_line (codes "BLOCKMAP") (length level.blockmap)
    ∷ []

-- `level <name> at <g>`
abbrev pub level_line : List ℕ → ℕ → List ℕ
level_line label g = codes "level " ++ (shown_name label ++ (codes " at " ++ (decimal g ++ 10 ∷ [])))

-- the text of `show`
abbrev pub show_text : Level → List ℕ
show_text level = level_line (slice_index_or level.names 0 []) level.label ++ flat_map (λ text. text) (lump_texts level)

-- a run over files of these bytes and a sink, by the sink's state
abbrev pub RunsShow : {W : Type 0} → (W → SinkState) → List (List ℕ) → List ℕ → Reading → W → W → Result (Unit {0}) RunFault → Type 0
RunsShow sink bytes asked reading out out' result =
    Runs (RefusesName bytes asked) (out' ≡ out) (IsOpened bytes asked reading) (λ level outcome. Writes (sink out) (sink out') (show_text level) outcome) result
