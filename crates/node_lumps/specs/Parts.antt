-- The parts of a lump in which all nodes of a level stand: a count each, and so many records (FProcessor::WriteBSPX of zdbsp).
use Rattle.std.specs.Prelude.{◌≡◌, ℕ, zero, suc, ◌+◌, ◌*◌, List, [], ◌∷◌, ◌++◌, length, drop, codes}
use Rattle.node_lumps.specs.Format.{seg_size}
use Rattle.node_lumps.specs.Number.{unsigned32_at}
use Rattle.node_lumps.specs.declared.format.NodeFormat.{NodeFormat}
use Rattle.node_lumps.specs.declared.parts.Part.{Part}
use Rattle.node_lumps.specs.declared.parts.Part.TheVariants.{Vertexes, Ssectors, Segs, Nodes}
use Rattle.node_lumps.specs.declared.parts.PartSlices.{PartSlices}

-- bytes that are a part: a count of four bytes, and so many records of a size
pub record IsPart (size : ℕ) (part records : List ℕ) : Type 0 where
  pub long : length part ≡ 4 + length records
  pub counted : length records ≡ unsigned32_at part 0 * size
  pub reads : drop 4 part ≡ records

-- bytes that begin with a part, and those behind it
pub record BeginsWith (size : ℕ) (bytes records rest : List ℕ) : Type 0 where
  pub part : List ℕ
  pub joined : bytes ≡ part ++ rest
  pub is : IsPart size part records

-- bytes that are parts with records of these sizes, one after another, and a rest
abbrev pub AreParts : List ℕ → List ℕ → List (List ℕ) → List ℕ → Type 0
AreParts [] bytes [] rest = bytes ≡ rest
AreParts (size ∷ sizes) bytes (records ∷ others) rest =
    (behind : List ℕ) × BeginsWith size bytes records behind × AreParts sizes behind others rest
AreParts [] bytes (records ∷ others) rest = ⊥
AreParts (size ∷ sizes) bytes [] rest = ⊥

-- the part of this number, from 0, is the first that isn't all there
abbrev pub AreCutIn : List ℕ → List ℕ → ℕ → Type 0
AreCutIn [] bytes number = ⊥
AreCutIn (size ∷ sizes) bytes zero = (records behind : List ℕ) → ¬ BeginsWith size bytes records behind
AreCutIn (size ∷ sizes) bytes (suc number) =
    (records : List ℕ) × (behind : List ℕ) × BeginsWith size bytes records behind
    × AreCutIn sizes behind number

-- the sizes of the records of new vertexes, of ssectors, of segs and of nodes
abbrev pub part_sizes : NodeFormat → List ℕ
part_sizes format = 8 ∷ 4 ∷ seg_size format ∷ 32 ∷ []

-- which part that is
abbrev pub number_of : Part → ℕ
number_of Vertexes = 0
number_of Ssectors = 1
number_of Segs = 2
number_of Nodes = 3

abbrev pub part_name : Part → List ℕ
part_name Vertexes = codes "vertexes"
part_name Ssectors = codes "ssectors"
part_name Segs = codes "segs"
part_name Nodes = codes "nodes"

-- the bytes of the records of each part, and those left over
pub record Parts : Type 0 where
  pub vertexes : List ℕ
  pub ssectors : List ℕ
  pub segs : List ℕ
  pub nodes : List ℕ
  pub rest : List ℕ

abbrev pub parts_of : PartSlices → Parts
parts_of parts = record {
  vertexes = parts.vertexes.now;
  ssectors = parts.ssectors.now;
  segs = parts.segs.now;
  nodes = parts.nodes.now;
  rest = parts.rest.now;
}

-- a lump is a tag, the number of vertexes, the parts and a rest
pub record HasParts (format : NodeFormat) (lump : List ℕ) (parts : Parts) : Type 0 where
  pub are :
      AreParts (part_sizes format) (drop 8 lump)
      (parts.vertexes ∷ parts.ssectors ∷ parts.segs ∷ parts.nodes ∷ []) parts.rest

-- this part of a lump is the first that isn't all there
pub record IsCutIn (format : NodeFormat) (lump : List ℕ) (part : Part) : Type 0 where
  pub cut : AreCutIn (part_sizes format) (drop 8 lump) (number_of part)
