-- Laws of sound trees (ours).
use Rattle.std.specs.Prelude.{◌≡◌, ◌↔◌, ℕ, ◌≤◌}
use Rattle.map_geo.specs.Point.{Point}
use Rattle.map_level.specs.Level.{Level}
use Rattle.map_level.specs.declared.finding.Code.{Code}
use Rattle.map_tree.specs.Leaf.{IsLeaf as IsLevelLeaf}
use Rattle.map_tree.specs.Paths.{Place, ssector, LeadsIn}
use Rattle.map_tree.specs.Sound.{IsSound as IsSoundLevel}
use Rattle.map_tree.specs.TreeFaults.{TreeHolds as LevelTreeHolds}
use Rattle.node_lumps.specs.Later.{Later}
use Rattle.node_tree.specs.LaterShape.{shape_of}
use Rattle.node_tree.specs.Shape.{Shape, node_count, child, root}
use Rattle.node_tree.specs.Leaf.{IsLeaf, CountsAncestors}
use Rattle.node_tree.specs.Sound.{IsSound, IsFaultless}
use Rattle.node_tree.specs.TreeFaults.{TreeHolds}
use Rattle.node_tree.specs.Wider.{AreWider}

-- each point has exactly one leaf
abbrev pub OneLeaf : Type 0
OneLeaf = (shape : Shape) (point : Point) → IsSound shape → (t : ℕ) × IsLeaf shape point t × ((u : ℕ) → IsLeaf shape point u → u ≡ t)

-- an ssector has as many ancestors as the root leads to it in steps
abbrev pub AncestorsByDepth : Type 0
AncestorsByDepth = (shape : Shape) (steps t : ℕ) → IsSound shape → LeadsIn (child shape) steps (root shape) (ssector t) → CountsAncestors shape t steps

-- the root leads to each place in at most as many steps as there are nodes
abbrev pub DepthAtMostNodes : Type 0
DepthAtMostNodes = (shape : Shape) (steps : ℕ) (place : Place) → IsSound shape → LeadsIn (child shape) steps (root shape) place → steps ≤ node_count shape

-- a tree is sound exactly where no fault holds
abbrev pub SoundIsFaultless : Type 0
SoundIsFaultless = (shape : Shape) → IsSound shape ↔ IsFaultless shape

-- where a level's nodes are written wider each point has the same leaf
abbrev pub SameLeaf : Type 0
SameLeaf = (level : Level) (later : Later) (point : Point) (t : ℕ) → AreWider level later → IsLevelLeaf level point t ↔ IsLeaf (shape_of later) point t

-- the findings on them are the same
abbrev pub SameFindings : Type 0
SameFindings = (level : Level) (later : Later) (code : Code) (i : ℕ) → AreWider level later → LevelTreeHolds level code i ↔ TreeHolds (shape_of later) code i

-- and those of a sound level are sound
abbrev pub SoundWider : Type 0
SoundWider = (level : Level) (later : Later) → AreWider level later → IsSoundLevel level → IsSound (shape_of later)
