-- Trees of nodes by what is asked of them: counts, children and partitions, whatever the words of the nodes are (R_PointInSubsector of r_main.c).
use Rattle.std.specs.Prelude.{◌≡◌, ℕ, ◌<◌, Bool, nat_lt, IsTrue, Option, Some, IsSome, if◌then◌else◌, None}
use Rattle.std.specs.Option.{option_map}
use Rattle.map_geo.specs.declared.sides.Side.{Side}
use Rattle.map_geo.specs.Point.{Point}
use Rattle.map_geo.specs.Partition.{Partition}
use Rattle.map_geo.specs.Side.{side_of}
use Rattle.map_tree.specs.Child.{root_of}
use Rattle.map_tree.specs.Paths.{Place, node, ssector, Leads}

-- of so many nodes and ssectors there is the place
abbrev pub is_place : ℕ → ℕ → Place → Bool
is_place nodes ssectors (node n) = nat_lt n nodes
is_place nodes ssectors (ssector t) = nat_lt t ssectors

-- how many nodes and ssectors there are; what stands on a side of a node, nothing where its word names nothing
-- that is there; and a node's partition
pub record Shape : Type 0 where
  pub nodes : ℕ
  pub ssectors : ℕ
  pub child : ℕ → Side → Option Place
  pub partition : ℕ → Option Partition
  pub parent_in : (n : ℕ) (s : Side) (p : Place) → child n s ≡ Some p → n < nodes
  pub there : (n : ℕ) (s : Side) (p : Place) → child n s ≡ Some p → IsTrue (is_place nodes ssectors p)
  pub line_in : (n : ℕ) (line : Partition) → partition n ≡ Some line → n < nodes
  pub lined : (n : ℕ) → n < nodes → IsSome (partition n)

abbrev pub node_count : Shape → ℕ
node_count shape = shape.nodes

abbrev pub ssector_count : Shape → ℕ
ssector_count shape = shape.ssectors

abbrev pub has : Shape → Place → Bool
has shape place = is_place shape.nodes shape.ssectors place

abbrev pub child : Shape → ℕ → Side → Option Place
child shape = shape.child

-- the last node, or ssector 0 where there are none
abbrev pub root : Shape → Place
root shape = root_of (node_count shape)

abbrev pub where_there : Shape → Place → Option Place
where_there shape place = if has shape place then Some place else None

-- the root leads to the place
abbrev pub IsReached : Shape → Place → Type 0
IsReached shape place = Leads (child shape) (root shape) place

-- the side on which a point lies at node n
abbrev pub side_at : Shape → ℕ → Point → Option Side
side_at shape n point = option_map (λ line. side_of line point) (shape.partition n)
