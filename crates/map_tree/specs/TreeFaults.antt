-- Faults and notes on the nodes of a level, each at an index (R_PointInSubsector of r_main.c follows children without a test).
use Rattle.std.specs.Prelude.{◌≡◌, ℕ, ◌<◌, pos, ◌⊎◌, Some, None, IsSomeAnd}
use Rattle.std.specs.List.{slice_get}
use Rattle.map_geo.specs.declared.sides.Side.{Side}
use Rattle.map_geo.specs.declared.sides.Side.TheVariants.{Front, Back}
use Rattle.map_geo.specs.Point.{IsInRange}
use Rattle.map_level.specs.Level.{Level}
use Rattle.map_level.specs.declared.finding.Code.{Code}
use Rattle.map_level.specs.declared.finding.Code.TheVariants.{F11, F12, F13, F14, F15, F16, N7}
use Rattle.map_tree.specs.Paths.{Place, node, ssector}
use Rattle.map_tree.specs.Child.{node_count, ssector_count, child, root, IsReached}

-- F11: child 0 or child 1 of a node names no node and no ssector
abbrev pub ChildNamesNothing : Level → ℕ → Type 0
ChildNamesNothing level n =
    (n < node_count level) × ((child level n Front ≡ None) ⊎ (child level n Back ≡ None))

-- F12: a node's origin is out of range
abbrev pub OriginOutside : Level → ℕ → Type 0
OriginOutside level n =
    IsSomeAnd (slice_get level.nodes.records n) (λ found. ¬ (IsInRange found.x × IsInRange found.y))

-- a child word names the place
abbrev pub IsNamed : Level → Place → Type 0
IsNamed level place = (n : ℕ) × (s : Side) × (child level n s ≡ Some place)

-- two child words name the place
pub record IsNamedTwice (level : Level) (place : Place) : Type 0 where
  pub n : ℕ
  pub s : Side
  pub names : child level n s ≡ Some place
  pub m : ℕ
  pub u : Side
  pub names_too : child level m u ≡ Some place
  pub apart : n ≡ m → s ≡ u → ⊥

-- F13: a node is named by two child words, or is the root and is named by one
abbrev pub NodeNamedTwice : Level → ℕ → Type 0
NodeNamedTwice level n =
    IsNamedTwice level (node n) ⊎ ((root level ≡ node n) × IsNamed level (node n))

-- F14: a node is not reached from the root
abbrev pub NodeNotReached : Level → ℕ → Type 0
NodeNotReached level n = (n < node_count level) × (¬ IsReached level (node n))

-- F15: an ssector is named by two child words
abbrev pub SsectorNamedTwice : Level → ℕ → Type 0
SsectorNamedTwice level t = IsNamedTwice level (ssector t)

-- F16: an ssector is not reached from the root, which is ssector 0 where there are no nodes
abbrev pub SsectorNotReached : Level → ℕ → Type 0
SsectorNotReached level t = (t < ssector_count level) × (¬ IsReached level (ssector t))

-- N7: the partition of a node has no direction
abbrev pub NoDirection : Level → ℕ → Type 0
NoDirection level n =
    IsSomeAnd (slice_get level.nodes.records n) (λ found. (found.dx ≡ pos 0) × (found.dy ≡ pos 0))

-- where each code of the tree part of a report holds; the others are looked for elsewhere
abbrev pub TreeHolds : Level → Code → ℕ → Type 0
TreeHolds level F11 i = ChildNamesNothing level i
TreeHolds level F12 i = OriginOutside level i
TreeHolds level F13 i = NodeNamedTwice level i
TreeHolds level F14 i = NodeNotReached level i
TreeHolds level F15 i = SsectorNamedTwice level i
TreeHolds level F16 i = SsectorNotReached level i
TreeHolds level N7 i = NoDirection level i
TreeHolds level _ i = ⊥
