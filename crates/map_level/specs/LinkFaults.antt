-- Faults and notes on the links of a level, each at an index (P_SetupLevel of p_setup.c follows links without a test).
use Rattle.std.specs.Prelude.{◌≡◌, ◌≢◌, ℕ, ◌<◌, ◌≤◌, ◌-◌, ◌+ℤ◌, ◌<ℤ◌, ◌⊎◌, ℤ, pos, negsuc, List, [], ◌∷◌, length, codes, Option, Some, IsSomeAnd}
use Rattle.std.specs.Int.{w16, int_bit_and}
use Rattle.std.specs.List.{slice_get}
use Rattle.le_rec.specs.declared.records.LineDef.{LineDef}
use Rattle.le_rec.specs.declared.records.SSector.{SSector}
use Rattle.le_rec.specs.declared.records.Vertex.{Vertex}
use Rattle.map_level.specs.Level.{Level}
use Rattle.map_level.specs.Links.{things_of, linedefs_of, sidedefs_of, vertexes_of, segs_of, ssectors_of, nodes_of, sectors_of, named, Names, NamesNone, no_side, side_of}
use Rattle.map_level.specs.declared.finding.Code.{Code}
use Rattle.map_level.specs.declared.finding.Code.TheVariants.{F3, F4, F5, F6, F7, F8, F9, F10, F17, F18, N1, N2, N3, N4, N5, N6, N11, N12}

-- F3: a linedef's v1 or v2 names no vertex
abbrev pub LinedefVertexNamesNone : Level → ℕ → Type 0
LinedefVertexNamesNone level i =
    IsSomeAnd (slice_get (linedefs_of level) i)
    (λ linedef. NamesNone (vertexes_of level) linedef.v1 ⊎ NamesNone (vertexes_of level) linedef.v2)

-- an index of a sidedef is there and names none
abbrev pub SideNamesNone : Level → ℤ → Type 0
SideNamesNone level side = (side ≢ no_side level.reading) × NamesNone (sidedefs_of level) side

-- F4: a linedef's side0 or side1 is there and names no sidedef
abbrev pub LinedefSideNamesNone : Level → ℕ → Type 0
LinedefSideNamesNone level i =
    IsSomeAnd (slice_get (linedefs_of level) i)
    (λ linedef. SideNamesNone level linedef.side0 ⊎ SideNamesNone level linedef.side1)

-- F5: a sidedef's sector names none
abbrev pub SidedefSectorNamesNone : Level → ℕ → Type 0
SidedefSectorNamesNone level i =
    IsSomeAnd (slice_get (sidedefs_of level) i)
    (λ sidedef. NamesNone (sectors_of level) sidedef.sector)

-- F6: a seg's v1 or v2 names no vertex
abbrev pub SegVertexNamesNone : Level → ℕ → Type 0
SegVertexNamesNone level i =
    IsSomeAnd (slice_get (segs_of level) i)
    (λ seg. NamesNone (vertexes_of level) seg.v1 ⊎ NamesNone (vertexes_of level) seg.v2)

-- F7: a seg's linedef names none
abbrev pub SegLinedefNamesNone : Level → ℕ → Type 0
SegLinedefNamesNone level i =
    IsSomeAnd (slice_get (segs_of level) i) (λ seg. NamesNone (linedefs_of level) seg.linedef)

-- F8: a seg's side is not 0 or 1
abbrev pub SegSideOther : Level → ℕ → Type 0
SegSideOther level i =
    IsSomeAnd (slice_get (segs_of level) i) (λ seg. (seg.side ≢ pos 0) × (seg.side ≢ pos 1))

-- F9: a seg's linedef is there and has no side at the seg's side number, 0 or 1
abbrev pub SegWithoutSide : Level → ℕ → Type 0
SegWithoutSide level i =
    IsSomeAnd (slice_get (segs_of level) i)
    (λ seg. side_of level seg ≡ Some (no_side level.reading))

-- a count is below 0, a first names none of so many segs, or first + count is above their number
abbrev pub GoesPast : ℕ → ℤ → ℤ → Type 0
GoesPast segs count first =
    (count <ℤ pos 0) ⊎ ((¬ Names segs first) ⊎ (pos segs <ℤ (first +ℤ count)))

abbrev pub IsOutOfRange : ℕ → SSector → Type 0
IsOutOfRange segs ssector = GoesPast segs ssector.count ssector.first

-- F10: an ssector's segs are not all there
abbrev pub SsectorOutOfRange : Level → ℕ → Type 0
SsectorOutOfRange level i =
    IsSomeAnd (slice_get (ssectors_of level) i) (IsOutOfRange (length (segs_of level)))

-- F17: there is no ssector
abbrev pub NoSsector : Level → ℕ → Type 0
NoSsector level i = (i ≡ 0) × (length (ssectors_of level) ≡ 0)

-- F18: there are more than 32767 nodes
abbrev pub TooManyNodes : Level → ℕ → Type 0
TooManyNodes level i = (i ≡ 0) × (32767 < length (nodes_of level))

-- the usual names of the ten lumps after a label
abbrev pub usual_names : List (List ℕ)
usual_names =
    codes "THINGS" ∷ codes "LINEDEFS" ∷ codes "SIDEDEFS" ∷ codes "VERTEXES" ∷ codes "SEGS"
    ∷ codes "SSECTORS" ∷ codes "NODES" ∷ codes "SECTORS"
    ∷ codes "REJECT" ∷ codes "BLOCKMAP" ∷ []

-- N1: the name of lump k, from 1 to 10, is not the usual one
abbrev pub LumpNameDiffers : Level → ℕ → Type 0
LumpNameDiffers level k =
    (1 ≤ k) × (k ≤ 10) × (slice_get level.names k ≢ slice_get usual_names (k - 1))

-- the numbers of bytes left over after the records of the eight tables
abbrev pub rests : Level → List ℕ
rests level =
    level.things.rest ∷ level.linedefs.rest ∷ level.sidedefs.rest ∷ level.vertexes.rest
    ∷ level.segs.rest ∷ level.ssectors.rest
    ∷ level.nodes.rest ∷ level.sectors.rest ∷ []

-- N2: bytes are left over in lump k, from 1 to 8
abbrev pub BytesLeftOver : Level → ℕ → Type 0
BytesLeftOver level k = (1 ≤ k) × IsSomeAnd (slice_get (rests level) (k - 1)) (λ rest. 0 < rest)

-- the flag of value 4 is set (ML_TWOSIDED of doomdata.h)
abbrev pub IsTwoSided : ℤ → Type 0
IsTwoSided flags = int_bit_and w16 flags (pos 4) ≢ pos 0

-- N3: a linedef is flagged as two-sided and has no side 1
abbrev pub TwoSidedWithoutSide : Level → ℕ → Type 0
TwoSidedWithoutSide level i =
    IsSomeAnd (slice_get (linedefs_of level) i)
    (λ linedef. IsTwoSided linedef.flags × (linedef.side1 ≡ no_side level.reading))

-- N4: a linedef has no side 0
abbrev pub NoSide0 : Level → ℕ → Type 0
NoSide0 level i =
    IsSomeAnd (slice_get (linedefs_of level) i) (λ linedef. linedef.side0 ≡ no_side level.reading)

-- two vertexes exist and have the same x and y
abbrev pub AreAtOnePlace : Option Vertex → Option Vertex → Type 0
AreAtOnePlace a b = IsSomeAnd a (λ from. IsSomeAnd b (λ to. (from.x ≡ to.x) × (from.y ≡ to.y)))

abbrev pub IsOfNoLength : Level → LineDef → Type 0
IsOfNoLength level linedef =
    AreAtOnePlace (named (vertexes_of level) linedef.v1) (named (vertexes_of level) linedef.v2)

-- N5: a linedef's vertexes exist and have the same x and y
abbrev pub LinedefOfNoLength : Level → ℕ → Type 0
LinedefOfNoLength level i = IsSomeAnd (slice_get (linedefs_of level) i) (IsOfNoLength level)

-- N6: an ssector has no segs
abbrev pub SsectorWithoutSegs : Level → ℕ → Type 0
SsectorWithoutSegs level i =
    IsSomeAnd (slice_get (ssectors_of level) i) (λ ssector. ssector.count ≡ pos 0)

-- thing k is a start of player 1
abbrev pub IsStart : Level → ℕ → Type 0
IsStart level k = IsSomeAnd (slice_get (things_of level) k) (λ thing. thing.kind ≡ pos 1)

-- N11: no thing is a start of player 1
abbrev pub NoStart : Level → ℕ → Type 0
NoStart level i = (i ≡ 0) × (¬ ((k : ℕ) × IsStart level k))

-- a coordinate is outside -16384 to 16383
abbrev pub IsOutside : ℤ → Type 0
IsOutside z = (z <ℤ negsuc 16383) ⊎ (pos 16383 <ℤ z)

-- N12: a vertex is out of range
abbrev pub VertexOutside : Level → ℕ → Type 0
VertexOutside level i =
    IsSomeAnd (slice_get (vertexes_of level) i) (λ vertex. IsOutside vertex.x ⊎ IsOutside vertex.y)

-- where each code of the link part of a report holds; the others are looked for elsewhere
abbrev pub LinkHolds : Level → Code → ℕ → Type 0
LinkHolds level F3 i = LinedefVertexNamesNone level i
LinkHolds level F4 i = LinedefSideNamesNone level i
LinkHolds level F5 i = SidedefSectorNamesNone level i
LinkHolds level F6 i = SegVertexNamesNone level i
LinkHolds level F7 i = SegLinedefNamesNone level i
LinkHolds level F8 i = SegSideOther level i
LinkHolds level F9 i = SegWithoutSide level i
LinkHolds level F10 i = SsectorOutOfRange level i
LinkHolds level F17 i = NoSsector level i
LinkHolds level F18 i = TooManyNodes level i
LinkHolds level N1 i = LumpNameDiffers level i
LinkHolds level N2 i = BytesLeftOver level i
LinkHolds level N3 i = TwoSidedWithoutSide level i
LinkHolds level N4 i = NoSide0 level i
LinkHolds level N5 i = LinedefOfNoLength level i
LinkHolds level N6 i = SsectorWithoutSegs level i
LinkHolds level N11 i = NoStart level i
LinkHolds level N12 i = VertexOutside level i
LinkHolds level _ i = ⊥
