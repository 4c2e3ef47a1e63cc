-- What the contents of lines name (ours).
use Rattle.std.specs.Prelude.{ℕ, ℤ, List, ◌++◌, codes}
use Rattle.std.specs.Fmt.{signed_decimal}
use Rattle.map_geo.specs.Point.{IsInRange}
use Rattle.map_level.specs.Links.{Names}

-- two numbers are a point's coordinates
abbrev pub AreCoordinates : ℤ → ℤ → Type 0
AreCoordinates x y = IsInRange x × IsInRange y

-- two numbers name two of so many sectors
abbrev pub AreSectors : ℕ → ℤ → ℤ → Type 0
AreSectors count a b = Names count a × Names count b

-- `<x> <y>`, and what follows
abbrev pub pair_text : ℤ → ℤ → List ℕ → List ℕ
pair_text x y rest = signed_decimal x ++ (codes " " ++ (signed_decimal y ++ rest))
