-- The ssector of a point (R_PointInSubsector of r_main.c), and the nodes above an ssector.
use Rattle.std.specs.Prelude.{◌≡◌, ◌≢◌, ℕ, ◌↔◌, List, length, AllPairs, Contains, Some}
use Rattle.map_geo.specs.declared.sides.Side.{Side}
use Rattle.map_geo.specs.Point.{Point}
use Rattle.node_tree.specs.Shape.{Shape}
use Rattle.map_tree.specs.Paths.{Place, ssector, Leads}
use Rattle.node_tree.specs.Shape.{child, side_at, IsReached}

-- the child of node n at a side leads to the place
abbrev pub ChildLeads : Shape → ℕ → Side → Place → Type 0
ChildLeads shape n s place =
    (next : Place) × (child shape n s ≡ Some next) × Leads (child shape) next place

-- ssector t is a leaf for the point: it is reached, and at each node above it the point lies
-- on the side that leads to it
pub record IsLeaf (shape : Shape) (point : Point) (t : ℕ) : Type 0 where
  pub reached : IsReached shape (ssector t)
  pub agrees : (n : ℕ) (s : Side) → ChildLeads shape n s (ssector t)
      → side_at shape n point ≡ Some s

-- node n is an ancestor of ssector t
abbrev pub IsAncestor : Shape → ℕ → ℕ → Type 0
IsAncestor shape t n = (s : Side) × ChildLeads shape n s (ssector t)

-- ssector t has so many ancestors
pub record CountsAncestors (shape : Shape) (t count : ℕ) : Type 0 where
  pub ancestors : List ℕ
  pub distinct : AllPairs (λ n m. n ≢ m) ancestors
  pub exact : (n : ℕ) → Contains ancestors n ↔ IsAncestor shape t n
  pub many : length ancestors ≡ count
