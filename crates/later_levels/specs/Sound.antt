-- Sound levels whose nodes stand in a later format (ours).
use Rattle.std.specs.Prelude.{◌≢◌, ℕ, IsTrue}
use Rattle.map_level.specs.Findings.{is_fault}
use Rattle.map_level.specs.declared.finding.Code.{Code}
use Rattle.node_tree.specs.LaterShape.{shape_of}
use Rattle.node_tree.specs.Sound as later_tree
use Rattle.later_levels.specs.Findings.{LaterHolds, part_of}
use Rattle.later_levels.specs.LaterLevel.{LaterLevel}
use Rattle.later_levels.specs.declared.codes.LaterPart.TheVariants.{Tree}

-- no fault of its links holds, and its nodes are a tree over all nodes and ssectors
pub record IsSound (one : LaterLevel) : Type 0 where
  pub linked : (code : Code) (i : ℕ) → IsTrue (is_fault code) → part_of code ≢ Tree → ¬ LaterHolds one code i
  pub tree : later_tree.IsSound (shape_of one.later)
