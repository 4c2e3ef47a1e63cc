-- The words of why nodes are broken.
use Rattle.std.proofs.Common.{◌≡◌, ◌≤◌, ℕ, List, ◌++◌, length, refl, append_assoc, arith}
use Rattle.std.specs.Prelude.{codes, decimal}
use Rattle.node_lumps.specs.Format.{lump_name}
use Rattle.node_lumps.specs.Parts.{part_name}
use Rattle.node_lumps.specs.Words.{broken_text}
use Rattle.node_lumps.specs.declared.broken.Broken.TheVariants as broken
use Rattle.node_lumps.specs.declared.format.NodeLump.{NodeLump}
use Rattle.node_lumps.specs.declared.format.NodeLump.TheVariants as lump
use Rattle.node_lumps.specs.declared.parts.Part.{Part}
use Rattle.node_lumps.specs.declared.parts.Part.TheVariants as part

-- the names that stand in them are short
pub lump_short : (named : NodeLump) → length (lump_name named) ≤ 8
lump_short lump.Nodes = let long : length (lump_name lump.Nodes) ≡ 5 = refl in omega (arith, long)
lump_short lump.Ssectors = let long : length (lump_name lump.Ssectors) ≡ 8 = refl in omega (arith, long)

pub part_short : (named : Part) → length (part_name named) ≤ 8
part_short part.Vertexes = let long : length (part_name part.Vertexes) ≡ 8 = refl in omega (arith, long)
part_short part.Ssectors = let long : length (part_name part.Ssectors) ≡ 8 = refl in omega (arith, long)
part_short part.Segs = let long : length (part_name part.Segs) ≡ 4 = refl in omega (arith, long)
part_short part.Nodes = let long : length (part_name part.Nodes) ≡ 5 = refl in omega (arith, long)

-- the words before other bytes, part by part
pub cut_before : (lump : NodeLump) (part : Part) (rest : List ℕ)
    → broken_text (broken.EndsWithin lump part) ++ rest ≡ lump_name lump ++ (codes " ends within its " ++ (part_name part ++ rest))
cut_before lump part rest = simp append_assoc

pub segs_before : (counted there : ℕ) (rest : List ℕ)
    → broken_text (broken.Segs counted there) ++ rest
    ≡ codes "its ssectors have " ++ (decimal counted ++ (codes " segs, " ++ (decimal there ++ (codes " are there" ++ rest))))
segs_before counted there rest = simp append_assoc

pub vertexes_before : (made there : ℕ) (rest : List ℕ)
    → broken_text (broken.Vertexes made there) ++ rest
    ≡ codes "made for " ++ (decimal made ++ (codes " vertexes, VERTEXES has " ++ (decimal there ++ rest)))
vertexes_before made there rest = simp append_assoc
