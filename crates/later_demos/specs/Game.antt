-- The numbers of a header that each version has: those of Doom's (ours).
use Rattle.std.specs.Prelude.{ℕ, List, slice_index}
use Rattle.std.specs.Option.{option_map_or}
use Rattle.demo_lump.specs.declared.header.Header.{Header}
use Rattle.later_demos.specs.Field.{place_of}
use Rattle.later_demos.specs.Header.{players_of}
use Rattle.later_demos.specs.declared.field.Field.{Field}
use Rattle.later_demos.specs.declared.field.Field.TheVariants.{Skill, Episode, Map, Deathmatch, Respawn, Fast, NoMonsters, Viewpoint}
use Rattle.later_demos.specs.declared.layout.Layout.{Layout}

-- the byte of a field
abbrev pub byte_in : Field → Layout → List ℕ → ℕ
byte_in field layout header =
    option_map_or (λ at. slice_index header at) (place_of field (slice_index header 0) layout.engine) 0

abbrev pub game_of : Layout → List ℕ → Header
game_of layout header = record {
  version = slice_index header 0;
  skill = byte_in Skill layout header;
  episode = byte_in Episode layout header;
  map = byte_in Map layout header;
  deathmatch = byte_in Deathmatch layout header;
  respawn = byte_in Respawn layout header;
  fast = byte_in Fast layout header;
  no_monsters = byte_in NoMonsters layout header;
  viewpoint = byte_in Viewpoint layout header;
  players = players_of layout header;
}
