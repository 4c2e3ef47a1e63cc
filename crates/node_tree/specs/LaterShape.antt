-- The tree of nodes in a later format (P_LoadZNodes and P_LoadNodes_V4 of dsda-doom's p_setup.c).
use Rattle.std.specs.Prelude.{◌≡◌, ℕ, ◌<◌, length, Option, Some, None, IsSome, IsTrue, option_and_then, pos, if◌then◌else◌}
use Rattle.std.specs.List.{slice_get}
use Rattle.std.specs.Option.{option_map}
use Rattle.std.proofs.Common.{refl, subst, sym}
use Rattle.std.proofs.lemmas.Option.{cond_some, none-some, option_and_then_some, slice_get-get_or, slice_get_within}
use Rattle.map_geo.specs.declared.sides.Side.{Side}
use Rattle.map_geo.specs.declared.sides.Side.TheVariants.{Front, Back}
use Rattle.map_geo.specs.Partition.{Partition}
use Rattle.map_tree.specs.Paths.{Place, node, ssector}
use Rattle.node_lumps.specs.Later.{Later}
use Rattle.node_lumps.specs.declared.records.LaterNode.{LaterNode}
use Rattle.node_lumps.specs.declared.records.NodeChild.{NodeChild}
use Rattle.node_lumps.specs.declared.records.NodeChild.TheVariants.{Node, Ssector}
use Rattle.node_tree.specs.Shape.{Shape, is_place}

-- what a child word names
abbrev pub place_named : NodeChild → Place
place_named (Node n) = node n
place_named (Ssector t) = ssector t

-- a node's child at a side
abbrev pub child_at : LaterNode → Side → NodeChild
child_at found Front = found.front
child_at found Back = found.back

abbrev pub node_partition : LaterNode → Partition
node_partition found = record { x = found.x; y = found.y; dx = found.dx; dy = found.dy }

-- a place of so many nodes and ssectors
abbrev pub place_in : Later → Place → Option Place
place_in later place =
    if is_place (length later.nodes) (length later.ssectors) place then Some place else None

abbrev pub child_in : Later → ℕ → Side → Option Place
child_in later n s =
    option_and_then (λ found. place_in later (place_named (child_at found s))) (slice_get later.nodes n)

abbrev pub partition_in : Later → ℕ → Option Partition
partition_in later n = option_map node_partition (slice_get later.nodes n)

-- a child and a partition are those of a node that is there, and a child is there
pub parent_in : (later : Later) (n : ℕ) (s : Side) (p : Place) → child_in later n s ≡ Some p
    → n < length later.nodes
parent_in later n s p e =
    option_and_then_some (λ (found : LaterNode). place_in later (place_named (child_at found s)))
    (slice_get later.nodes n) p e (λ found is f. slice_get_within later.nodes n found is)

pub child_there : (later : Later) (n : ℕ) (s : Side) (p : Place) → child_in later n s ≡ Some p
    → IsTrue (is_place (length later.nodes) (length later.ssectors) p)
child_there later n s p e =
    option_and_then_some (λ (found : LaterNode). place_in later (place_named (child_at found s)))
    (slice_get later.nodes n) p e (λ found is f.
    let place = place_named (child_at found s) in
    let r = cond_some (is_place (length later.nodes) (length later.ssectors) place) place p f in
    subst (λ x. IsTrue (is_place (length later.nodes) (length later.ssectors) x)) r.1 r.0)

mapped_some : {A B : Type 0} (f : A → B) (o : Option A) (y : B) → option_map f o ≡ Some y
    → (x : A) × (o ≡ Some x)
mapped_some f None y e = absurd (none-some y e)
mapped_some f (Some x) y e = (x, refl)

pub line_in : (later : Later) (n : ℕ) (line : Partition) → partition_in later n ≡ Some line
    → n < length later.nodes
line_in later n line e =
    let found = mapped_some node_partition (slice_get later.nodes n) line e in
    slice_get_within later.nodes n found.0 found.1

some_node : LaterNode
some_node = record { x = pos 0; y = pos 0; dx = pos 0; dy = pos 0; front = Node 0; back = Node 0 }

pub lined : (later : Later) (n : ℕ) → n < length later.nodes → IsSome (partition_in later n)
lined later n within =
    subst (λ o. IsSome (option_map node_partition o))
    (sym (slice_get-get_or later.nodes n some_node within)) refl

-- the tree of nodes
abbrev pub shape_of : Later → Shape
shape_of later = record {
  nodes = length later.nodes;
  ssectors = length later.ssectors;
  child = child_in later;
  partition = partition_in later;
  parent_in = parent_in later;
  there = child_there later;
  line_in = line_in later;
  lined = lined later;
}
