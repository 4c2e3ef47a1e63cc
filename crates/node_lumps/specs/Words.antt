-- Why nodes are broken, in words (ours).
use Rattle.std.specs.Prelude.{ℕ, List, ◌++◌, codes}
use Rattle.std.specs.Fmt.{decimal}
use Rattle.node_lumps.specs.Format.{lump_name}
use Rattle.node_lumps.specs.Parts.{part_name}
use Rattle.node_lumps.specs.declared.broken.Broken.{Broken}
use Rattle.node_lumps.specs.declared.broken.Broken.TheVariants.{EndsWithin, Segs, Vertexes}

abbrev pub broken_text : Broken → List ℕ
broken_text (EndsWithin lump part) = lump_name lump ++ codes " ends within its " ++ part_name part
broken_text (Segs counted there) =
    codes "its ssectors have " ++ decimal counted ++ codes " segs, " ++ decimal there
    ++ codes " are there"
broken_text (Vertexes made there) =
    codes "made for " ++ decimal made ++ (codes " vertexes, VERTEXES has " ++ decimal there)
