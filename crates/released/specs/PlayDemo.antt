-- How the released game begins to play a demo (G_DoPlayDemo of g_game.c, linuxdoom 1.10).
use Rattle.std.specs.Prelude.{ℕ, ◌==◌, List, [], ◌∷◌, slice_index, Option, Some, None, if◌then◌else◌}
use Rattle.demo_lump.specs.declared.header.Header.{Header}

-- VERSION of doomdef.h
abbrev pub game_version : ℕ
game_version = 110

-- the header that it takes; none of another version
abbrev pub released_header : List ℕ → Option Header
released_header bytes =
    if slice_index bytes 0 == game_version
    then Some (record {
      version = slice_index bytes 0;
      skill = slice_index bytes 1;
      episode = slice_index bytes 2;
      map = slice_index bytes 3;
      deathmatch = slice_index bytes 4;
      respawn = slice_index bytes 5;
      fast = slice_index bytes 6;
      no_monsters = slice_index bytes 7;
      viewpoint = slice_index bytes 8;
      players =
          slice_index bytes 9 ∷ slice_index bytes 10 ∷ slice_index bytes 11 ∷ slice_index bytes 12 ∷ [];
    })
    else None
