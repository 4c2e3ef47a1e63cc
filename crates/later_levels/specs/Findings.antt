-- All findings of a level whose nodes stand in a later format (ours).
use Rattle.std.specs.Prelude.{ℕ}
use Rattle.map_level.specs.LinkFaults.{LinkHolds}
use Rattle.map_level.specs.declared.finding.Code.{Code}
use Rattle.map_level.specs.declared.finding.Code.TheVariants.{F3, F4, F5, F6, F7, F8, F9, F10, F11, F12, F13, F14, F15, F16, F17, N2, N3, N4, N5, N6, N7, N8, N9, N10, N11, N12}
use Rattle.map_tables.specs.TableFaults.{TableHolds}
use Rattle.node_tree.specs.LaterShape.{shape_of}
use Rattle.node_tree.specs.TreeFaults.{TreeHolds}
use Rattle.later_levels.specs.LaterLevel.{LaterLevel}
use Rattle.later_levels.specs.Left.{BytesLeftOver}
use Rattle.later_levels.specs.SegFaults.{SegLinedefNamesNone, SegSideOther, SegVertexNamesNone, SegWithoutSide}
use Rattle.later_levels.specs.SsectorFaults.{NoSsector, SsectorOutOfRange, SsectorWithoutSegs}
use Rattle.later_levels.specs.declared.codes.LaterPart.{LaterPart}
use Rattle.later_levels.specs.declared.codes.LaterPart.TheVariants.{Level, Segs, Tree, Tables, Nothing}

-- what holds of the later segs and ssectors, and of what the lumps leave over
abbrev pub SegHolds : LaterLevel → Code → ℕ → Type 0
SegHolds one F6 i = SegVertexNamesNone one.later i
SegHolds one F7 i = SegLinedefNamesNone one i
SegHolds one F8 i = SegSideOther one.later i
SegHolds one F9 i = SegWithoutSide one i
SegHolds one F10 i = SsectorOutOfRange one.later i
SegHolds one F17 i = NoSsector one.later i
SegHolds one N2 i = BytesLeftOver one i
SegHolds one N6 i = SsectorWithoutSegs one.later i
SegHolds one _ i = ⊥

-- the part of a level that a code is looked for in: F1, F2, F18 and N1 hold in none
abbrev pub part_of : Code → LaterPart
part_of F3 = Level
part_of F4 = Level
part_of F5 = Level
part_of N3 = Level
part_of N4 = Level
part_of N5 = Level
part_of N11 = Level
part_of N12 = Level
part_of F6 = Segs
part_of F7 = Segs
part_of F8 = Segs
part_of F9 = Segs
part_of F10 = Segs
part_of F17 = Segs
part_of N2 = Segs
part_of N6 = Segs
part_of F11 = Tree
part_of F12 = Tree
part_of F13 = Tree
part_of F14 = Tree
part_of F15 = Tree
part_of F16 = Tree
part_of N7 = Tree
part_of N8 = Tables
part_of N9 = Tables
part_of N10 = Tables
part_of _ = Nothing

-- what holds of each part: what the level has besides its nodes has its own codes unchanged
abbrev pub PartHolds : LaterPart → LaterLevel → Code → ℕ → Type 0
PartHolds Level one = LinkHolds one.level
PartHolds Segs one = SegHolds one
PartHolds Tree one = TreeHolds (shape_of one.later)
PartHolds Tables one = TableHolds one.level
PartHolds Nothing one = λ code i. ⊥

-- a code holds of a level at an index
abbrev pub LaterHolds : LaterLevel → Code → ℕ → Type 0
LaterHolds one code = PartHolds (part_of code) one code
