-- Where on the map a finding lies (ours): what stands behind its message.
use Rattle.std.specs.Prelude.{ℕ, ◌+◌, ℤ, pos, Bool, not, ◌&&◌, ◌||◌, List, [], ◌∷◌, ◌++◌, Option, Some, None, length, drop, codes, nat_eq, nat_lt, if◌then◌else◌}
use Rattle.std.specs.Fmt.{decimal, signed_decimal}
use Rattle.std.specs.List.{slice_get}
use Rattle.std.specs.Option.{option_map_or}
use Rattle.std.specs.Ordering.{int_eq}
use Rattle.le_rec.specs.declared.records.LineDef.{LineDef}
use Rattle.map_level.specs.Findings.{rank}
use Rattle.map_level.specs.Level.{Level}
use Rattle.map_level.specs.Links.{named, no_side, ◌>>=◌}
use Rattle.map_level.specs.Reading.{number_of}
use Rattle.map_level.specs.declared.finding.Code.{Code}
use Rattle.map_level.specs.declared.finding.Code.TheVariants.{F12}
use Rattle.level_codes.specs.Codes.{kind_of}
use Rattle.level_codes.specs.declared.code.ReportCode.TheVariants as report
use Rattle.level_codes.specs.declared.kind.Kind.{Kind}
use Rattle.level_codes.specs.declared.kind.Kind.TheVariants.{Linedef, Sidedef, Seg, Ssector, Node, Thing}
use Rattle.lens_texts.specs.declared.place.MapPlace.{MapPlace}
use Rattle.lens_texts.specs.declared.place.MapPlace.TheVariants.{Nowhere, At, Between, OfLinedef}
use Rattle.lens_texts.specs.declared.place.PlaceEnds.{PlaceEnds}
use Rattle.lens_texts.specs.declared.place.Spot.{Spot}

-- a word of a level's record as an index
abbrev pub index_of : Level → ℤ → ℤ
index_of level word = number_of level.reading word

-- where the vertex is that a word names
abbrev pub spot_at : Level → ℤ → Option Spot
spot_at level word = do
  vertex ← named level.vertexes.records (index_of level word)
  Some (record { x = vertex.x; y = vertex.y })

-- between the vertexes that two words name, where both are there
abbrev pub between : Level → ℤ → ℤ → MapPlace
between level v1 v2 =
    option_map_or (λ from. option_map_or (λ to. Between from to) (spot_at level v2) Nowhere) (spot_at level v1) Nowhere

-- where the first seg of an ssector starts
abbrev pub first_spot : Level → ℕ → Option Spot
first_spot level t = do
  ssector ← slice_get level.ssectors.records t
  seg ← named level.segs.records (index_of level ssector.first)
  spot_at level seg.v1

-- a linedef's word for a side names the sidedef of a number
abbrev pub names_sidedef : Level → ℕ → ℤ → Bool
names_sidedef level i word =
    not (int_eq (index_of level word) (no_side level.reading)) && int_eq (index_of level word) (pos i)

-- the first of some linedefs, numbered on from n, one side of which names sidedef i
abbrev pub first_naming : Level → ℕ → ℕ → List LineDef → Option ℕ
first_naming level i n [] = None
first_naming level i n (linedef ∷ linedefs) =
    if names_sidedef level i linedef.side0 || names_sidedef level i linedef.side1
    then Some n
    else first_naming level i (n + 1) linedefs

-- the first linedef from one on that names sidedef i, where that is there
abbrev pub owner_from : Level → ℕ → ℕ → Option ℕ
owner_from level i n =
    if nat_lt i (length level.sidedefs.records)
    then first_naming level i n (drop n level.linedefs.records)
    else None

-- the first linedef of all
abbrev pub owner_of : Level → ℕ → Option ℕ
owner_of level i = owner_from level i 0

-- where what is of a kind and a number lies, if anywhere
abbrev pub place_at : Level → Kind → ℕ → MapPlace
place_at level Linedef i = option_map_or (λ linedef. between level linedef.v1 linedef.v2) (slice_get level.linedefs.records i) Nowhere
place_at level Seg i = option_map_or (λ seg. between level seg.v1 seg.v2) (slice_get level.segs.records i) Nowhere
place_at level Sidedef i = option_map_or (λ linedef. OfLinedef linedef) (owner_of level i) Nowhere
place_at level Ssector i = option_map_or (λ spot. At spot) (first_spot level i) Nowhere
place_at level Node i = option_map_or (λ node. At (record { x = node.x; y = node.y })) (slice_get level.nodes.records i) Nowhere
place_at level Thing i = option_map_or (λ thing. At (record { x = thing.x; y = thing.y })) (slice_get level.things.records i) Nowhere
place_at level _ i = Nowhere

-- where a finding lies; the message of F12 has the node's origin itself
abbrev pub place_of : Level → Code → ℕ → MapPlace
place_of level code i = if nat_eq (rank code) (rank F12) then Nowhere else place_at level (kind_of (report.Finding code)) i

-- the two ends of a linedef, where both are there
abbrev pub linedef_ends : Level → ℕ → Option PlaceEnds
linedef_ends level i = do
  linedef ← slice_get level.linedefs.records i
  from ← spot_at level linedef.v1
  to ← spot_at level linedef.v2
  Some (record { from = from; to = to })

-- the two ends of a place, if it is known: a lone spot is both
abbrev pub ends_of : Level → MapPlace → Option PlaceEnds
ends_of level Nowhere = None
ends_of level (At spot) = Some (record { from = spot; to = spot })
ends_of level (Between from to) = Some (record { from = from; to = to })
ends_of level (OfLinedef linedef) = linedef_ends level linedef

-- `(X, Y)`, before other bytes
abbrev pub spot_text : ℤ → ℤ → List ℕ → List ℕ
spot_text x y rest = codes "(" ++ (signed_decimal x ++ (codes ", " ++ (signed_decimal y ++ (codes ")" ++ rest))))

-- a place behind a message, before other bytes
abbrev pub place_text : MapPlace → List ℕ → List ℕ
place_text Nowhere rest = rest
place_text (At spot) rest = codes ", at " ++ spot_text spot.x spot.y rest
place_text (Between from to) rest = codes ", from " ++ spot_text from.x from.y (codes " to " ++ spot_text to.x to.y rest)
place_text (OfLinedef linedef) rest = codes ", of linedef " ++ (decimal linedef ++ rest)
