-- Own lumps, records and numbers, computed on small lists of names and on single records.
use Rattle.std.proofs.Common.{◌≡◌, ℕ, ◌+◌, ℤ, pos, negsuc, List, [], ◌∷◌, inl, inr, refl, arith}
use Rattle.std.specs.Prelude.{codes}
use Rattle.le_rec.specs.Number.{signed16, unsigned16}
use Rattle.level_starts.specs.Starts.{IsNamed}
use Rattle.map_sketch.specs.Own.{IsOwnPlace}
use Rattle.map_sketch.specs.Numbers.{turn_of}
use Rattle.map_sketch.specs.Records.{links_at, spot_at}
use Rattle.map_sketch.specs.declared.records.Form.TheVariants.{Doom, Hexen}

-- a linedef of Hexen: vertexes 0 and 1, flags, special 12 with arguments 1 to 5, sidedef 256 and none
abbrev hexen_linedef : List ℕ
hexen_linedef = 0 ∷ 0 ∷ 1 ∷ 0 ∷ 4 ∷ 0 ∷ 12 ∷ 1 ∷ 2 ∷ 3 ∷ 4 ∷ 5 ∷ 0 ∷ 1 ∷ 255 ∷ 255 ∷ []

links_of_hexen : links_at Hexen hexen_linedef 0 ≡ record { v1 = pos 0; v2 = pos 1; side0 = pos 256; side1 = negsuc 0 }
unfolding signed16 unsigned16
links_of_hexen = refl

-- a thing of Hexen: identifier 7, at (8, -8), 16 above the floor, looking north, type 1
abbrev hexen_thing : List ℕ
hexen_thing = 7 ∷ 0 ∷ 8 ∷ 0 ∷ 248 ∷ 255 ∷ 16 ∷ 0 ∷ 90 ∷ 0 ∷ 1 ∷ 0 ∷ 7 ∷ 0 ∷ 0 ∷ 0 ∷ 0 ∷ 0 ∷ 0 ∷ 0 ∷ []

spot_of_hexen : spot_at Hexen hexen_thing 0 ≡ record { x = pos 8; y = negsuc 7; angle = pos 90; kind = pos 1 }
unfolding signed16 unsigned16
spot_of_hexen = refl

-- an angle is turned by whole eighths
turns : turn_of (pos 100) ≡ pos 90
turns = refl

-- SECTORS of an unbuilt level, behind lumps of the level alone
abbrev unbuilt : List (List ℕ)
unbuilt = codes "MAP01" ∷ codes "THINGS" ∷ codes "SECTORS" ∷ codes "MAP02" ∷ codes "NODES" ∷ []

sectors_of_unbuilt : IsOwnPlace unbuilt 0 (codes "SECTORS") 2
sectors_of_unbuilt = record {
  from = omega arith;
  to = omega arith;
  own = λ j from less. let one : j ≡ 1 = omega (arith, from, less) in rw one (inl (record { place = 1; from = omega arith; to = omega arith; named = refl }));
  first = λ j from less named. let one : j ≡ 1 = omega (arith, from, less) in
      let there : IsNamed unbuilt 1 (codes "SECTORS") = rw one at named in cc;
  named = refl;
}
