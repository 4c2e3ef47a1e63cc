-- The worked cases of nodes in later formats, computed on the definitions: what is read of each, or the reason why it is broken.
use Rattle.std.proofs.Common.{◌≡◌, ℕ, ◌+◌, ◌*◌, Bool, true, List, [], ◌∷◌, ◌++◌, length, take, drop, map, replicate, refl, arith, lit<, lit≤}
use Rattle.std.specs.Prelude.{nat_le, ◌&&◌, ◌==◌}
use Rattle.std.proofs.lemmas.Bool.{and_parts, eqb-true, leb-true}
use Rattle.le_rec.specs.Number.{signed16, signed32, unsigned16, unsigned32}
use Rattle.node_lumps.specs.Format.{seg_size}
use Rattle.node_lumps.specs.Later.{Later}
use Rattle.node_lumps.specs.Number.{unsigned32_at}
use Rattle.node_lumps.specs.Parts.{HasParts, Parts}
use Rattle.node_lumps.specs.Reading.{AreJoinedNodes, IsJoinedBroken, Lumps, counted_segs, deep_nodes, joined_nodes, made_for, seg_count, vertex_count}
use Rattle.node_lumps.specs.declared.broken.Broken.TheVariants.{EndsWithin, Segs, Vertexes}
use Rattle.node_lumps.specs.declared.format.NodeFormat.{NodeFormat}
use Rattle.node_lumps.specs.declared.format.NodeFormat.TheVariants.{Xnod, Xgln, Xgl2}
use Rattle.node_lumps.specs.declared.format.NodeLump.TheVariants as node_lump
use Rattle.node_lumps.specs.declared.parts.Part.TheVariants as node_part
use Rattle.node_lumps.proofs.PartLemmas.{begins, begins_not}

-- the part at the front of bytes, cut where its count says
abbrev records_at : ℕ → List ℕ → List ℕ
records_at size bytes = take (unsigned32_at bytes 0 * size) (drop 4 bytes)

abbrev behind : ℕ → List ℕ → List ℕ
behind size bytes = drop (4 + unsigned32_at bytes 0 * size) bytes

abbrev is_there : ℕ → List ℕ → Bool
is_there size bytes = nat_le (4 + unsigned32_at bytes 0 * size) (length bytes)

-- the bytes from each part on
abbrev from_ssectors : List ℕ → List ℕ
from_ssectors lump = behind 8 (drop 8 lump)

abbrev from_segs : List ℕ → List ℕ
from_segs lump = behind 4 (from_ssectors lump)

abbrev from_nodes : NodeFormat → List ℕ → List ℕ
from_nodes format lump = behind (seg_size format) (from_segs lump)

abbrev parts_in : NodeFormat → List ℕ → Parts
parts_in format lump = record {
  vertexes = records_at 8 (drop 8 lump);
  ssectors = records_at 4 (from_ssectors lump);
  segs = records_at (seg_size format) (from_segs lump);
  nodes = records_at 32 (from_nodes format lump);
  rest = behind 32 (from_nodes format lump);
}

-- all parts are there
abbrev are_there : NodeFormat → List ℕ → Bool
are_there format lump =
    is_there 8 (drop 8 lump) && (is_there 4 (from_ssectors lump)
    && (is_there (seg_size format) (from_segs lump) && is_there 32 (from_nodes format lump)))

has_parts : (format : NodeFormat) (lump : List ℕ) → are_there format lump ≡ true
    → HasParts format lump (parts_in format lump)
has_parts format lump h =
    let first = and_parts _ _ h in
    let second = and_parts _ _ first.1 in
    let third = and_parts _ _ second.1 in record {
      are = (
        from_ssectors lump,
        begins 8 (drop 8 lump) (leb-true _ _ first.0),
        (
          from_segs lump,
          begins 4 (from_ssectors lump) (leb-true _ _ second.0),
          (
            from_nodes format lump,
            begins (seg_size format) (from_segs lump) (leb-true _ _ third.0),
            (behind 32 (from_nodes format lump), begins 32 (from_nodes format lump) (leb-true _ _ third.1), refl),
          ),
        ),
      );
    }

-- nodes are read where tests of their numbers say so
read_by : (format : NodeFormat) (vertexes lump : List ℕ) → are_there format lump ≡ true
    → (counted_segs (parts_in format lump) == seg_count format (parts_in format lump)) ≡ true
    → nat_le (made_for lump) (vertex_count vertexes) ≡ true
    → AreJoinedNodes format vertexes lump (joined_nodes format vertexes lump (parts_in format lump))
read_by format vertexes lump there summed made = record {
  parts = parts_in format lump;
  whole = has_parts format lump there;
  summed = eqb-true _ _ summed;
  made = leb-true _ _ made;
  reads = refl;
}

-- how many there are of vertexes, new ones, segs and nodes, the bytes left over of each lump, and the first segs of the ssectors
abbrev told : Later → List ℕ
told later =
    length later.vertexes ∷ length later.new_vertexes ∷ length later.segs ∷ length later.nodes
    ∷ later.left.vertexes ∷ later.left.segs ∷ later.left.ssectors ∷ later.left.nodes
    ∷ map (λ ssector. ssector.first) later.ssectors

abbrev told_of : NodeFormat → List ℕ → List ℕ → List ℕ
told_of format vertexes lump = told (joined_nodes format vertexes lump (parts_in format lump))

-- (0, 0) and (0, 64)
abbrev base_vertexes : List ℕ
base_vertexes = 0 ∷ 0 ∷ 0 ∷ 0 ∷ 0 ∷ 0 ∷ 64 ∷ 0 ∷ []

-- two ssectors of a seg each
abbrev bytes_1 : List ℕ
bytes_1 =
    (88 ∷ 78 ∷ 79 ∷ 68 ∷ 2 ∷ 0 ∷ 0 ∷ 0 ∷ 0 ∷ 0 ∷ 0 ∷ 0 ∷ 2 ∷ 0 ∷ 0 ∷ 0 ∷ 1 ∷ 0 ∷ 0 ∷ 0 ∷ 1 ∷ 0 ∷ 0 ∷ 0 ∷ 2 ∷ 0 ∷ 0 ∷ 0 ∷ 0 ∷ 0 ∷ 0 ∷ 0 ∷ 1 ∷ 0 ∷ 0 ∷ 0 ∷ 0 ∷ 0 ∷ 0 ∷ 1 ∷ 0 ∷ 0 ∷ 0 ∷ 0 ∷ 0 ∷ 0 ∷ 0 ∷ 0 ∷ 0 ∷ 1 ∷ 1 ∷ 0 ∷ 0 ∷ 0 ∷ 0 ∷ 0 ∷ 0 ∷ 0 ∷ 0 ∷ 0 ∷ 64 ∷ []) ++ replicate 20 0 ++ (128 ∷ 1 ∷ 0 ∷ 0 ∷ 128 ∷ [])

case_1 : AreJoinedNodes Xnod base_vertexes bytes_1 (joined_nodes Xnod base_vertexes bytes_1 (parts_in Xnod bytes_1))
    × (told_of Xnod base_vertexes bytes_1 ≡ 2 ∷ 0 ∷ 2 ∷ 1 ∷ 0 ∷ 0 ∷ 0 ∷ 0 ∷ 0 ∷ 1 ∷ [])
unfolding unsigned16 unsigned32 signed16 signed32
case_1 = (read_by Xnod base_vertexes bytes_1 refl refl refl, refl)

-- bytes behind the nodes
abbrev bytes_3 : List ℕ
bytes_3 =
    (88 ∷ 78 ∷ 79 ∷ 68 ∷ 2 ∷ 0 ∷ 0 ∷ 0 ∷ 0 ∷ 0 ∷ 0 ∷ 0 ∷ 2 ∷ 0 ∷ 0 ∷ 0 ∷ 1 ∷ 0 ∷ 0 ∷ 0 ∷ 1 ∷ 0 ∷ 0 ∷ 0 ∷ 2 ∷ 0 ∷ 0 ∷ 0 ∷ 0 ∷ 0 ∷ 0 ∷ 0 ∷ 1 ∷ 0 ∷ 0 ∷ 0 ∷ 0 ∷ 0 ∷ 0 ∷ 1 ∷ 0 ∷ 0 ∷ 0 ∷ 0 ∷ 0 ∷ 0 ∷ 0 ∷ 0 ∷ 0 ∷ 1 ∷ 1 ∷ 0 ∷ 0 ∷ 0 ∷ 0 ∷ 0 ∷ 0 ∷ 0 ∷ 0 ∷ 0 ∷ 64 ∷ []) ++ replicate 20 0 ++ (128 ∷ 1 ∷ 0 ∷ 0 ∷ 128 ∷ 0 ∷ 0 ∷ 0 ∷ [])

case_3 : AreJoinedNodes Xnod base_vertexes bytes_3 (joined_nodes Xnod base_vertexes bytes_3 (parts_in Xnod bytes_3))
    × (told_of Xnod base_vertexes bytes_3 ≡ 2 ∷ 0 ∷ 2 ∷ 1 ∷ 0 ∷ 0 ∷ 0 ∷ 3 ∷ 0 ∷ 1 ∷ [])
unfolding unsigned16 unsigned32 signed16 signed32
case_3 = (read_by Xnod base_vertexes bytes_3 refl refl refl, refl)

-- a third record of VERTEXES, which the nodes don't count
abbrev bytes_12 : List ℕ
bytes_12 =
    (88 ∷ 78 ∷ 79 ∷ 68 ∷ 2 ∷ 0 ∷ 0 ∷ 0 ∷ 0 ∷ 0 ∷ 0 ∷ 0 ∷ 2 ∷ 0 ∷ 0 ∷ 0 ∷ 1 ∷ 0 ∷ 0 ∷ 0 ∷ 1 ∷ 0 ∷ 0 ∷ 0 ∷ 2 ∷ 0 ∷ 0 ∷ 0 ∷ 0 ∷ 0 ∷ 0 ∷ 0 ∷ 1 ∷ 0 ∷ 0 ∷ 0 ∷ 0 ∷ 0 ∷ 0 ∷ 1 ∷ 0 ∷ 0 ∷ 0 ∷ 0 ∷ 0 ∷ 0 ∷ 0 ∷ 0 ∷ 0 ∷ 1 ∷ 1 ∷ 0 ∷ 0 ∷ 0 ∷ 0 ∷ 0 ∷ 0 ∷ 0 ∷ 0 ∷ 0 ∷ 64 ∷ []) ++ replicate 20 0 ++ (128 ∷ 1 ∷ 0 ∷ 0 ∷ 128 ∷ [])

abbrev vertexes_12 : List ℕ
vertexes_12 = (0 ∷ 0 ∷ 0 ∷ 0 ∷ 0 ∷ 0 ∷ 64 ∷ 0 ∷ 5 ∷ 0 ∷ 5 ∷ 0 ∷ [])

case_12 : AreJoinedNodes Xnod vertexes_12 bytes_12 (joined_nodes Xnod vertexes_12 bytes_12 (parts_in Xnod bytes_12))
    × (told_of Xnod vertexes_12 bytes_12 ≡ 2 ∷ 0 ∷ 2 ∷ 1 ∷ 4 ∷ 0 ∷ 0 ∷ 0 ∷ 0 ∷ 1 ∷ [])
unfolding unsigned16 unsigned32 signed16 signed32
case_12 = (read_by Xnod vertexes_12 bytes_12 refl refl refl, refl)

-- a new vertex
abbrev bytes_14 : List ℕ
bytes_14 =
    (88 ∷ 78 ∷ 79 ∷ 68 ∷ 2 ∷ 0 ∷ 0 ∷ 0 ∷ 1 ∷ 0 ∷ 0 ∷ 0 ∷ 0 ∷ 0 ∷ 0 ∷ 0 ∷ 0 ∷ 128 ∷ 32 ∷ 0 ∷ 2 ∷ 0 ∷ 0 ∷ 0 ∷ 2 ∷ 0 ∷ 0 ∷ 0 ∷ 1 ∷ 0 ∷ 0 ∷ 0 ∷ 3 ∷ 0 ∷ 0 ∷ 0 ∷ 0 ∷ 0 ∷ 0 ∷ 0 ∷ 2 ∷ 0 ∷ 0 ∷ 0 ∷ 0 ∷ 0 ∷ 0 ∷ 2 ∷ 0 ∷ 0 ∷ 0 ∷ 1 ∷ 0 ∷ 0 ∷ 0 ∷ 0 ∷ 0 ∷ 2 ∷ 1 ∷ 0 ∷ 0 ∷ 0 ∷ 0 ∷ 0 ∷ 0 ∷ 0 ∷ 0 ∷ 0 ∷ 1 ∷ 1 ∷ 0 ∷ 0 ∷ 0 ∷ 0 ∷ 0 ∷ 0 ∷ 0 ∷ 0 ∷ 0 ∷ 64 ∷ []) ++ replicate 20 0 ++ (128 ∷ 1 ∷ 0 ∷ 0 ∷ 128 ∷ [])

case_14 : AreJoinedNodes Xnod base_vertexes bytes_14 (joined_nodes Xnod base_vertexes bytes_14 (parts_in Xnod bytes_14))
    × (told_of Xnod base_vertexes bytes_14 ≡ 2 ∷ 1 ∷ 3 ∷ 1 ∷ 0 ∷ 0 ∷ 0 ∷ 0 ∷ 0 ∷ 2 ∷ [])
unfolding unsigned16 unsigned32 signed16 signed32
case_14 = (read_by Xnod base_vertexes bytes_14 refl refl refl, refl)

-- an empty ssector at the end
abbrev bytes_17 : List ℕ
bytes_17 =
    (88 ∷ 78 ∷ 79 ∷ 68 ∷ 2 ∷ 0 ∷ 0 ∷ 0 ∷ 0 ∷ 0 ∷ 0 ∷ 0 ∷ 3 ∷ 0 ∷ 0 ∷ 0 ∷ 1 ∷ 0 ∷ 0 ∷ 0 ∷ 1 ∷ 0 ∷ 0 ∷ 0 ∷ 0 ∷ 0 ∷ 0 ∷ 0 ∷ 2 ∷ 0 ∷ 0 ∷ 0 ∷ 0 ∷ 0 ∷ 0 ∷ 0 ∷ 1 ∷ 0 ∷ 0 ∷ 0 ∷ 0 ∷ 0 ∷ 0 ∷ 1 ∷ 0 ∷ 0 ∷ 0 ∷ 0 ∷ 0 ∷ 0 ∷ 0 ∷ 0 ∷ 0 ∷ 1 ∷ 1 ∷ 0 ∷ 0 ∷ 0 ∷ 0 ∷ 0 ∷ 0 ∷ 0 ∷ 0 ∷ 0 ∷ 64 ∷ []) ++ replicate 20 0 ++ (128 ∷ 1 ∷ 0 ∷ 0 ∷ 128 ∷ [])

case_17 : AreJoinedNodes Xnod base_vertexes bytes_17 (joined_nodes Xnod base_vertexes bytes_17 (parts_in Xnod bytes_17))
    × (told_of Xnod base_vertexes bytes_17 ≡ 2 ∷ 0 ∷ 2 ∷ 1 ∷ 0 ∷ 0 ∷ 0 ∷ 0 ∷ 0 ∷ 1 ∷ 2 ∷ [])
unfolding unsigned16 unsigned32 signed16 signed32
case_17 = (read_by Xnod base_vertexes bytes_17 refl refl refl, refl)

-- an empty ssector first
abbrev bytes_18 : List ℕ
bytes_18 =
    (88 ∷ 78 ∷ 79 ∷ 68 ∷ 2 ∷ 0 ∷ 0 ∷ 0 ∷ 0 ∷ 0 ∷ 0 ∷ 0 ∷ 3 ∷ 0 ∷ 0 ∷ 0 ∷ 0 ∷ 0 ∷ 0 ∷ 0 ∷ 1 ∷ 0 ∷ 0 ∷ 0 ∷ 1 ∷ 0 ∷ 0 ∷ 0 ∷ 2 ∷ 0 ∷ 0 ∷ 0 ∷ 0 ∷ 0 ∷ 0 ∷ 0 ∷ 1 ∷ 0 ∷ 0 ∷ 0 ∷ 0 ∷ 0 ∷ 0 ∷ 1 ∷ 0 ∷ 0 ∷ 0 ∷ 0 ∷ 0 ∷ 0 ∷ 0 ∷ 0 ∷ 0 ∷ 1 ∷ 2 ∷ 0 ∷ 0 ∷ 0 ∷ 0 ∷ 0 ∷ 0 ∷ 0 ∷ 0 ∷ 0 ∷ 64 ∷ []) ++ replicate 17 0 ++ (1 ∷ 0 ∷ 0 ∷ 128 ∷ 2 ∷ 0 ∷ 0 ∷ 128 ∷ 0 ∷ 0 ∷ 32 ∷ 0 ∷ 1 ∷ []) ++ replicate 22 0 ++ (128 ∷ 0 ∷ 0 ∷ 0 ∷ 0 ∷ [])

case_18 : AreJoinedNodes Xnod base_vertexes bytes_18 (joined_nodes Xnod base_vertexes bytes_18 (parts_in Xnod bytes_18))
    × (told_of Xnod base_vertexes bytes_18 ≡ 2 ∷ 0 ∷ 2 ∷ 2 ∷ 0 ∷ 0 ∷ 0 ∷ 0 ∷ 0 ∷ 0 ∷ 1 ∷ [])
unfolding unsigned16 unsigned32 signed16 signed32
case_18 = (read_by Xnod base_vertexes bytes_18 refl refl refl, refl)

-- nothing at all
abbrev bytes_22 : List ℕ
bytes_22 =
    (88 ∷ 78 ∷ 79 ∷ 68 ∷ 2 ∷ []) ++ replicate 19 0

case_22 : AreJoinedNodes Xnod base_vertexes bytes_22 (joined_nodes Xnod base_vertexes bytes_22 (parts_in Xnod bytes_22))
    × (told_of Xnod base_vertexes bytes_22 ≡ 2 ∷ 0 ∷ 0 ∷ 0 ∷ 0 ∷ 0 ∷ 0 ∷ 0 ∷ [])
unfolding unsigned16 unsigned32 signed16 signed32
case_22 = (read_by Xnod base_vertexes bytes_22 refl refl refl, refl)

-- GL nodes, and a byte left over
abbrev bytes_28 : List ℕ
bytes_28 =
    (88 ∷ 71 ∷ 76 ∷ 78 ∷ 2 ∷ 0 ∷ 0 ∷ 0 ∷ 2 ∷ 0 ∷ 0 ∷ 0 ∷ 0 ∷ 0 ∷ 64 ∷ 0 ∷ 0 ∷ 0 ∷ 32 ∷ 0 ∷ 0 ∷ 0 ∷ 192 ∷ 255 ∷ 0 ∷ 0 ∷ 32 ∷ 0 ∷ 2 ∷ 0 ∷ 0 ∷ 0 ∷ 3 ∷ 0 ∷ 0 ∷ 0 ∷ 3 ∷ 0 ∷ 0 ∷ 0 ∷ 6 ∷ 0 ∷ 0 ∷ 0 ∷ 2 ∷ 0 ∷ 0 ∷ 0 ∷ 255 ∷ 255 ∷ 255 ∷ 255 ∷ 255 ∷ 255 ∷ 0 ∷ 9 ∷ 0 ∷ 0 ∷ 0 ∷ 4 ∷ 0 ∷ 0 ∷ 0 ∷ 255 ∷ 255 ∷ 0 ∷ 1 ∷ 0 ∷ 0 ∷ 0 ∷ 255 ∷ 255 ∷ 255 ∷ 255 ∷ 255 ∷ 255 ∷ 0 ∷ 3 ∷ 0 ∷ 0 ∷ 0 ∷ 255 ∷ 255 ∷ 255 ∷ 255 ∷ 255 ∷ 255 ∷ 7 ∷ 1 ∷ 0 ∷ 0 ∷ 0 ∷ 1 ∷ 0 ∷ 0 ∷ 0 ∷ 0 ∷ 0 ∷ 1 ∷ 0 ∷ 0 ∷ 0 ∷ 0 ∷ 255 ∷ 255 ∷ 255 ∷ 255 ∷ 255 ∷ 255 ∷ 0 ∷ 1 ∷ 0 ∷ 0 ∷ 0 ∷ 0 ∷ 0 ∷ 0 ∷ 0 ∷ 0 ∷ 0 ∷ 64 ∷ []) ++ replicate 20 0 ++ (128 ∷ 1 ∷ 0 ∷ 0 ∷ 128 ∷ 0 ∷ [])

case_28 : AreJoinedNodes Xgln base_vertexes bytes_28 (joined_nodes Xgln base_vertexes bytes_28 (parts_in Xgln bytes_28))
    × (told_of Xgln base_vertexes bytes_28 ≡ 2 ∷ 2 ∷ 6 ∷ 1 ∷ 0 ∷ 0 ∷ 1 ∷ 0 ∷ 0 ∷ 3 ∷ [])
unfolding unsigned16 unsigned32 signed16 signed32
case_28 = (read_by Xgln base_vertexes bytes_28 refl refl refl, refl)

-- linedefs of 32 bits
abbrev bytes_31 : List ℕ
bytes_31 =
    (88 ∷ 71 ∷ 76 ∷ 50 ∷ 2 ∷ 0 ∷ 0 ∷ 0 ∷ 0 ∷ 0 ∷ 0 ∷ 0 ∷ 2 ∷ 0 ∷ 0 ∷ 0 ∷ 1 ∷ 0 ∷ 0 ∷ 0 ∷ 1 ∷ 0 ∷ 0 ∷ 0 ∷ 2 ∷ 0 ∷ 0 ∷ 0 ∷ 0 ∷ 0 ∷ 0 ∷ 0 ∷ 255 ∷ 255 ∷ 255 ∷ 255 ∷ 0 ∷ 0 ∷ 0 ∷ 0 ∷ 0 ∷ 1 ∷ 0 ∷ 0 ∷ 0 ∷ 255 ∷ 255 ∷ 255 ∷ 255 ∷ 255 ∷ 255 ∷ 0 ∷ 0 ∷ 0 ∷ 1 ∷ 0 ∷ 0 ∷ 0 ∷ 0 ∷ 0 ∷ 0 ∷ 0 ∷ 0 ∷ 0 ∷ 64 ∷ []) ++ replicate 20 0 ++ (128 ∷ 1 ∷ 0 ∷ 0 ∷ 128 ∷ [])

case_31 : AreJoinedNodes Xgl2 base_vertexes bytes_31 (joined_nodes Xgl2 base_vertexes bytes_31 (parts_in Xgl2 bytes_31))
    × (told_of Xgl2 base_vertexes bytes_31 ≡ 2 ∷ 0 ∷ 2 ∷ 1 ∷ 0 ∷ 0 ∷ 0 ∷ 0 ∷ 0 ∷ 1 ∷ [])
unfolding unsigned16 unsigned32 signed16 signed32
case_31 = (read_by Xgl2 base_vertexes bytes_31 refl refl refl, refl)

-- the tag alone
abbrev bytes_4 : List ℕ
bytes_4 =
    (88 ∷ 78 ∷ 79 ∷ 68 ∷ [])

case_4 : IsJoinedBroken Xnod base_vertexes bytes_4 (EndsWithin node_lump.Nodes node_part.Vertexes)
unfolding unsigned16 unsigned32 signed16 signed32
case_4 = (refl, record { cut = λ records rest. begins_not 8 [] (lit< tt) records rest })

-- half a seg
abbrev bytes_7 : List ℕ
bytes_7 =
    (88 ∷ 78 ∷ 79 ∷ 68 ∷ 2 ∷ 0 ∷ 0 ∷ 0 ∷ 0 ∷ 0 ∷ 0 ∷ 0 ∷ 2 ∷ 0 ∷ 0 ∷ 0 ∷ 1 ∷ 0 ∷ 0 ∷ 0 ∷ 1 ∷ 0 ∷ 0 ∷ 0 ∷ 2 ∷ 0 ∷ 0 ∷ 0 ∷ 0 ∷ 0 ∷ 0 ∷ 0 ∷ 1 ∷ 0 ∷ 0 ∷ 0 ∷ 0 ∷ 0 ∷ 0 ∷ 1 ∷ 0 ∷ 0 ∷ 0 ∷ 0 ∷ [])

case_7 : IsJoinedBroken Xnod base_vertexes bytes_7 (EndsWithin node_lump.Nodes node_part.Segs)
unfolding unsigned16 unsigned32 signed16 signed32
case_7 = (
  refl,
  record {
    cut = (
      _,
      _,
      begins 8 (drop 8 bytes_7) (lit≤ tt),
      (
        _,
        _,
        begins 4 (from_ssectors bytes_7) (lit≤ tt),
        λ records rest. begins_not 11 (from_segs bytes_7) (lit< tt) records rest,
      ),
    );
  },
)

-- one seg of no ssector
abbrev bytes_9 : List ℕ
bytes_9 =
    (88 ∷ 78 ∷ 79 ∷ 68 ∷ 2 ∷ 0 ∷ 0 ∷ 0 ∷ 0 ∷ 0 ∷ 0 ∷ 0 ∷ 2 ∷ 0 ∷ 0 ∷ 0 ∷ 1 ∷ 0 ∷ 0 ∷ 0 ∷ 0 ∷ 0 ∷ 0 ∷ 0 ∷ 2 ∷ 0 ∷ 0 ∷ 0 ∷ 0 ∷ 0 ∷ 0 ∷ 0 ∷ 1 ∷ 0 ∷ 0 ∷ 0 ∷ 0 ∷ 0 ∷ 0 ∷ 1 ∷ 0 ∷ 0 ∷ 0 ∷ 0 ∷ 0 ∷ 0 ∷ 0 ∷ 0 ∷ 0 ∷ 1 ∷ 1 ∷ 0 ∷ 0 ∷ 0 ∷ 0 ∷ 0 ∷ 0 ∷ 0 ∷ 0 ∷ 0 ∷ 64 ∷ []) ++ replicate 20 0 ++ (128 ∷ 1 ∷ 0 ∷ 0 ∷ 128 ∷ [])

case_9 : IsJoinedBroken Xnod base_vertexes bytes_9 (Segs 1 2)
unfolding unsigned16 unsigned32 signed16 signed32
case_9 = record {
  parts = parts_in Xnod bytes_9;
  whole = has_parts Xnod bytes_9 refl;
  added = refl;
  found = refl;
  apart = λ e. omega (arith, e);
}

-- counts that wrap in 32 bits
abbrev bytes_10 : List ℕ
bytes_10 =
    (88 ∷ 78 ∷ 79 ∷ 68 ∷ 2 ∷ 0 ∷ 0 ∷ 0 ∷ 0 ∷ 0 ∷ 0 ∷ 0 ∷ 2 ∷ 0 ∷ 0 ∷ 0 ∷ 255 ∷ 255 ∷ 255 ∷ 255 ∷ 3 ∷ 0 ∷ 0 ∷ 0 ∷ 2 ∷ 0 ∷ 0 ∷ 0 ∷ 0 ∷ 0 ∷ 0 ∷ 0 ∷ 1 ∷ 0 ∷ 0 ∷ 0 ∷ 0 ∷ 0 ∷ 0 ∷ 1 ∷ 0 ∷ 0 ∷ 0 ∷ 0 ∷ 0 ∷ 0 ∷ 0 ∷ 0 ∷ 0 ∷ 1 ∷ 1 ∷ 0 ∷ 0 ∷ 0 ∷ 0 ∷ 0 ∷ 0 ∷ 0 ∷ 0 ∷ 0 ∷ 64 ∷ []) ++ replicate 20 0 ++ (128 ∷ 1 ∷ 0 ∷ 0 ∷ 128 ∷ [])

case_10 : IsJoinedBroken Xnod base_vertexes bytes_10 (Segs 4294967298 2)
unfolding unsigned16 unsigned32 signed16 signed32
case_10 = record {
  parts = parts_in Xnod bytes_10;
  whole = has_parts Xnod bytes_10 refl;
  added = refl;
  found = refl;
  apart = λ e. omega (arith, e);
}

-- made for another VERTEXES
abbrev bytes_11 : List ℕ
bytes_11 =
    (88 ∷ 78 ∷ 79 ∷ 68 ∷ 3 ∷ 0 ∷ 0 ∷ 0 ∷ 0 ∷ 0 ∷ 0 ∷ 0 ∷ 2 ∷ 0 ∷ 0 ∷ 0 ∷ 1 ∷ 0 ∷ 0 ∷ 0 ∷ 1 ∷ 0 ∷ 0 ∷ 0 ∷ 2 ∷ 0 ∷ 0 ∷ 0 ∷ 0 ∷ 0 ∷ 0 ∷ 0 ∷ 1 ∷ 0 ∷ 0 ∷ 0 ∷ 0 ∷ 0 ∷ 0 ∷ 1 ∷ 0 ∷ 0 ∷ 0 ∷ 0 ∷ 0 ∷ 0 ∷ 0 ∷ 0 ∷ 0 ∷ 1 ∷ 1 ∷ 0 ∷ 0 ∷ 0 ∷ 0 ∷ 0 ∷ 0 ∷ 0 ∷ 0 ∷ 0 ∷ 64 ∷ []) ++ replicate 20 0 ++ (128 ∷ 1 ∷ 0 ∷ 0 ∷ 128 ∷ [])

case_11 : IsJoinedBroken Xnod base_vertexes bytes_11 (Vertexes 3 2)
unfolding unsigned16 unsigned32 signed16 signed32
case_11 = record {
  parts = parts_in Xnod bytes_11;
  whole = has_parts Xnod bytes_11 refl;
  summed = refl;
  wanted = refl;
  found = refl;
  past = lit< tt;
}

-- an ssector of DeePBSP from 4294967295 on
abbrev lumps_25 : Lumps
lumps_25 = record {
  vertexes = base_vertexes;
  segs = (0 ∷ 0 ∷ 0 ∷ 0 ∷ 1 ∷ 0 ∷ 0 ∷ 0 ∷ 0 ∷ 64 ∷ 0 ∷ 0 ∷ 0 ∷ 0 ∷ 0 ∷ 0 ∷ 1 ∷ 0 ∷ 0 ∷ 0 ∷ 0 ∷ 0 ∷ 0 ∷ 0 ∷ 0 ∷ 192 ∷ 0 ∷ 0 ∷ 255 ∷ 255 ∷ 0 ∷ 0 ∷ []);
  ssectors = (1 ∷ 0 ∷ 0 ∷ 0 ∷ 0 ∷ 0 ∷ 255 ∷ 255 ∷ 255 ∷ 255 ∷ 255 ∷ 255 ∷ []);
  nodes = (120 ∷ 78 ∷ 100 ∷ 52 ∷ []) ++ replicate 10 0 ++ (64 ∷ []) ++ replicate 20 0 ++ (128 ∷ 1 ∷ 0 ∷ 0 ∷ 128 ∷ []);
}

case_25 : told (deep_nodes lumps_25) ≡ 2 ∷ 0 ∷ 2 ∷ 1 ∷ 0 ∷ 0 ∷ 0 ∷ 0 ∷ 0 ∷ 4294967295 ∷ []
unfolding unsigned16 unsigned32 signed16 signed32
case_25 = refl
