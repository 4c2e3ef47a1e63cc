-- The records of linedefs and things, of Doom (maplinedef_t and mapthing_t of doomdata.h) and of Hexen (the same of its xddefs.h).
use Rattle.std.specs.Prelude.{ℕ, ◌+◌, ◌*◌, List}
use Rattle.le_rec.specs.Number.{signed16_at}
use Rattle.map_sketch.specs.declared.records.Form.{Form}
use Rattle.map_sketch.specs.declared.records.Form.TheVariants.{Doom, Hexen}
use Rattle.map_sketch.specs.declared.records.Links.{Links}
use Rattle.map_sketch.specs.declared.records.Spot.{Spot}

-- how many bytes a linedef has
abbrev pub linedef_size : Form → ℕ
linedef_size Doom = 14
linedef_size Hexen = 16

-- what linedef i names: behind two vertexes stand flags, and Doom's special and tag, or Hexen's special and five arguments
abbrev pub links_at : Form → List ℕ → ℕ → Links
links_at Doom bytes i = record {
  v1 = signed16_at bytes (14 * i);
  v2 = signed16_at bytes (14 * i + 2);
  side0 = signed16_at bytes (14 * i + 10);
  side1 = signed16_at bytes (14 * i + 12);
}
links_at Hexen bytes i = record {
  v1 = signed16_at bytes (16 * i);
  v2 = signed16_at bytes (16 * i + 2);
  side0 = signed16_at bytes (16 * i + 12);
  side1 = signed16_at bytes (16 * i + 14);
}

-- how many bytes a thing has
abbrev pub thing_size : Form → ℕ
thing_size Doom = 10
thing_size Hexen = 20

-- where thing i stands: Hexen's has an identifier before its place, and its height behind it
abbrev pub spot_at : Form → List ℕ → ℕ → Spot
spot_at Doom bytes i = record {
  x = signed16_at bytes (10 * i);
  y = signed16_at bytes (10 * i + 2);
  angle = signed16_at bytes (10 * i + 4);
  kind = signed16_at bytes (10 * i + 6);
}
spot_at Hexen bytes i = record {
  x = signed16_at bytes (20 * i + 2);
  y = signed16_at bytes (20 * i + 4);
  angle = signed16_at bytes (20 * i + 8);
  kind = signed16_at bytes (20 * i + 10);
}
