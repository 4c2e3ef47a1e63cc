-- The table of versions (G_ReadDemoHeaderEx of g_game.c, as dsda-doom 0.25.6 has it; recorded demos of dsda-doom and Woof).
use Rattle.std.specs.Prelude.{ℕ, Bool, true, false, ◌&&◌, nat_le, find, Option, List, [], ◌∷◌, codes}
use Rattle.std.specs.Option.{option_map}
use Rattle.later_demos.specs.declared.layout.Engine.{Engine}
use Rattle.later_demos.specs.declared.layout.Engine.TheVariants.{Early, Doom, Boom, Mbf, PrBoom, Mbf21}
use Rattle.later_demos.specs.declared.layout.Layout.{Layout}
use Rattle.later_demos.specs.declared.layout.VersionRow.{VersionRow}

-- a row of the table: the versions from one to another; whose these are, the bytes of a header, the place of its players, and whether a
-- turn has two bytes
abbrev row : ℕ → ℕ → Engine → ℕ → ℕ → Bool → VersionRow
row first last engine size players long = record {
  first = first;
  last = last;
  layout = record { engine = engine; size = size; players = players; long = long };
}

-- the table of the versions that are read; of MBF21 the size and the place are those without compatibility options
abbrev pub versions : List VersionRow
versions =
    row 104 108 Early 13 9 false
    ∷ row 109 110 Doom 13 9 false
    ∷ row 111 111 Doom 13 9 true
    ∷ row 200 200 Boom 301 269 false
    ∷ row 201 202 Boom 109 77 false
    ∷ row 203 203 Mbf 109 77 false
    ∷ row 210 213 PrBoom 109 77 false
    ∷ row 214 214 PrBoom 109 77 true
    ∷ row 221 221 Mbf21 65 33 true
    ∷ []

-- a row speaks of a version
abbrev pub covers : ℕ → VersionRow → Bool
covers version row = nat_le row.first version && nat_le version row.last

-- what the demos of a version have; a version without a row isn't read
unfoldable pub layout_of : ℕ → Option Layout
layout_of version = option_map (λ row. row.layout) (find (covers version) versions)

-- the bytes behind the version, by which engines know their demos: 29 and `Boom`, or 29 and `MBF`
abbrev pub signature_of : Engine → List ℕ
signature_of Early = []
signature_of Doom = []
signature_of Boom = 29 ∷ 66 ∷ 111 ∷ 111 ∷ 109 ∷ 230 ∷ []
signature_of _ = 29 ∷ 77 ∷ 66 ∷ 70 ∷ 230 ∷ 0 ∷ []

-- the name that is told: none of Doom 1.9
abbrev pub name_of : Engine → List ℕ
name_of Early = codes "1.4 to 1.8"
name_of Doom = []
name_of Boom = codes "Boom"
name_of Mbf = codes "MBF"
name_of PrBoom = codes "PrBoom"
name_of Mbf21 = codes "MBF21"
