-- Faults and notes on the nodes of a tree, each at an index (R_PointInSubsector of r_main.c follows children without a test).
use Rattle.std.specs.Prelude.{◌≡◌, ℕ, ◌<◌, pos, ◌⊎◌, Some, None, IsSomeAnd}
use Rattle.map_geo.specs.declared.sides.Side.{Side}
use Rattle.map_geo.specs.declared.sides.Side.TheVariants.{Front, Back}
use Rattle.map_geo.specs.Point.{IsInRange}
use Rattle.node_tree.specs.Shape.{Shape}
use Rattle.map_level.specs.declared.finding.Code.{Code}
use Rattle.map_level.specs.declared.finding.Code.TheVariants.{F11, F12, F13, F14, F15, F16, N7}
use Rattle.map_tree.specs.Paths.{Place, node, ssector}
use Rattle.node_tree.specs.Shape.{node_count, ssector_count, child, root, IsReached}

-- F11: child 0 or child 1 of a node names no node and no ssector
abbrev pub ChildNamesNothing : Shape → ℕ → Type 0
ChildNamesNothing shape n =
    (n < node_count shape) × ((child shape n Front ≡ None) ⊎ (child shape n Back ≡ None))

-- F12: a node's origin is out of range
abbrev pub OriginOutside : Shape → ℕ → Type 0
OriginOutside shape n =
    IsSomeAnd (shape.partition n) (λ line. ¬ (IsInRange line.x × IsInRange line.y))

-- a child word names the place
abbrev pub IsNamed : Shape → Place → Type 0
IsNamed shape place = (n : ℕ) × (s : Side) × (child shape n s ≡ Some place)

-- two child words name the place
pub record IsNamedTwice (shape : Shape) (place : Place) : Type 0 where
  pub n : ℕ
  pub s : Side
  pub names : child shape n s ≡ Some place
  pub m : ℕ
  pub u : Side
  pub names_too : child shape m u ≡ Some place
  pub apart : n ≡ m → s ≡ u → ⊥

-- F13: a node is named by two child words, or is the root and is named by one
abbrev pub NodeNamedTwice : Shape → ℕ → Type 0
NodeNamedTwice shape n =
    IsNamedTwice shape (node n) ⊎ ((root shape ≡ node n) × IsNamed shape (node n))

-- F14: a node is not reached from the root
abbrev pub NodeNotReached : Shape → ℕ → Type 0
NodeNotReached shape n = (n < node_count shape) × (¬ IsReached shape (node n))

-- F15: an ssector is named by two child words
abbrev pub SsectorNamedTwice : Shape → ℕ → Type 0
SsectorNamedTwice shape t = IsNamedTwice shape (ssector t)

-- F16: an ssector is not reached from the root, which is ssector 0 where there are no nodes
abbrev pub SsectorNotReached : Shape → ℕ → Type 0
SsectorNotReached shape t = (t < ssector_count shape) × (¬ IsReached shape (ssector t))

-- N7: the partition of a node has no direction
abbrev pub NoDirection : Shape → ℕ → Type 0
NoDirection shape n =
    IsSomeAnd (shape.partition n) (λ line. (line.dx ≡ pos 0) × (line.dy ≡ pos 0))

-- where each code of the tree part of a report holds; the others are looked for elsewhere
abbrev pub TreeHolds : Shape → Code → ℕ → Type 0
TreeHolds shape F11 i = ChildNamesNothing shape i
TreeHolds shape F12 i = OriginOutside shape i
TreeHolds shape F13 i = NodeNamedTwice shape i
TreeHolds shape F14 i = NodeNotReached shape i
TreeHolds shape F15 i = SsectorNamedTwice shape i
TreeHolds shape F16 i = SsectorNotReached shape i
TreeHolds shape N7 i = NoDirection shape i
TreeHolds shape _ i = ⊥
