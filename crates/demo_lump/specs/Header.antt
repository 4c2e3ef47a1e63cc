-- The header of a demo (G_BeginRecording and G_DoPlayDemo of g_game.c).
use Rattle.std.specs.Prelude.{◌≡◌, ℕ, ◌<◌, ◌≤◌, ◌==◌, not, List, [], length, take, drop, slice_index, count_by}
use Rattle.demo_lump.specs.declared.header.Header.{Header}
use Rattle.demo_lump.specs.declared.fault.DemoFault.{DemoFault}
use Rattle.demo_lump.specs.declared.fault.DemoFault.TheVariants.{Empty, Version, ShortHeader, NoPlayers, NoMarker}

-- the versions that are read: 109, 110 and 111
abbrev pub IsVersion : ℕ → Type 0
IsVersion version = (109 ≤ version) × (version ≤ 111)

-- the header that 13 bytes hold
abbrev pub header_of : List ℕ → Header
header_of bytes = record {
  version = slice_index bytes 0;
  skill = slice_index bytes 1;
  episode = slice_index bytes 2;
  map = slice_index bytes 3;
  deathmatch = slice_index bytes 4;
  respawn = slice_index bytes 5;
  fast = slice_index bytes 6;
  no_monsters = slice_index bytes 7;
  viewpoint = slice_index bytes 8;
  players = take 4 (drop 9 bytes);
}

-- how many players are in the game: those whose byte isn't 0
abbrev pub players_in : List ℕ → ℕ
players_in players = count_by (λ b. not (b == 0)) players

-- thirteen bytes that are a header, of a version that is read and with a player in the game
pub record IsHeader (bytes : List ℕ) (header : Header) : Type 0 where
  pub long : length bytes ≡ 13
  pub reads : header_of bytes ≡ header
  pub version : IsVersion header.version
  pub players : 0 < players_in header.players

-- why bytes begin with no header: the first reason that holds
abbrev pub RefusesHeader : List ℕ → DemoFault → Type 0
RefusesHeader bytes Empty = bytes ≡ []
RefusesHeader bytes (Version version) =
    (0 < length bytes) × (slice_index bytes 0 ≡ version) × ¬ IsVersion version
RefusesHeader bytes ShortHeader =
    (0 < length bytes) × IsVersion (slice_index bytes 0) × (length bytes < 13)
RefusesHeader bytes NoPlayers =
    (13 ≤ length bytes) × IsVersion (slice_index bytes 0)
    × (players_in (header_of (take 13 bytes)).players ≡ 0)
RefusesHeader bytes (NoMarker _) = ⊥
