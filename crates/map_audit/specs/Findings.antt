-- All findings of a level (ours).
use Rattle.std.specs.Prelude.{ℕ, ◌⊎◌}
use Rattle.map_level.specs.Level.{Level}
use Rattle.map_level.specs.LinkFaults.{LinkHolds}
use Rattle.map_level.specs.declared.finding.Code.{Code}
use Rattle.map_level.specs.declared.finding.Code.TheVariants.{F11, F12, F13, F14, F15, F16, N7, N8, N9, N10}
use Rattle.map_tree.specs.TreeFaults.{TreeHolds}
use Rattle.map_tables.specs.TableFaults.{TableHolds}
use Rattle.map_audit.specs.declared.auditing.LevelPart.{LevelPart}
use Rattle.map_audit.specs.declared.auditing.LevelPart.TheVariants.{Links, Nodes, Tables}

-- a code holds of a level at an index: of its links, of its nodes, or of its REJECT and BLOCKMAP
abbrev pub AuditHolds : Level → Code → ℕ → Type 0
AuditHolds level code i =
    LinkHolds level code i ⊎ (TreeHolds level code i ⊎ TableHolds level code i)

-- the part that a code is looked for in; F1 and F2 hold in none
abbrev pub part_of : Code → LevelPart
part_of F11 = Nodes
part_of F12 = Nodes
part_of F13 = Nodes
part_of F14 = Nodes
part_of F15 = Nodes
part_of F16 = Nodes
part_of N7 = Nodes
part_of N8 = Tables
part_of N9 = Tables
part_of N10 = Tables
part_of _ = Links

-- a code holds of a level at an index, by its part alone
abbrev pub PartHolds : LevelPart → Level → Code → ℕ → Type 0
PartHolds Links = LinkHolds
PartHolds Nodes = TreeHolds
PartHolds Tables = TableHolds
