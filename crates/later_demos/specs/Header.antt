-- The header of a demo: what of it the version tells, and why it is refused (G_ReadDemoHeaderEx, G_ReadOptions of g_game.c; recorded demos).
use Rattle.std.specs.Prelude.{◌≡◌, ℕ, ◌+◌, ◌<◌, ◌≤◌, ◌==◌, not, nat_eq, nat_lt, if◌then◌else◌, Option, Some, None, List, length, take, drop, slice_index}
use Rattle.std.specs.List.{starts_with}
use Rattle.demo_lump.specs.Header.{players_in}
use Rattle.later_demos.specs.Layout.{layout_of, signature_of}
use Rattle.later_demos.specs.declared.fault.LaterFault.{LaterFault}
use Rattle.later_demos.specs.declared.fault.LaterFault.TheVariants.{Version, Signature, Options, Short, NoPlayers}
use Rattle.later_demos.specs.declared.layout.Engine.{Engine}
use Rattle.later_demos.specs.declared.layout.Engine.TheVariants.{Mbf21}
use Rattle.later_demos.specs.declared.layout.Layout.{Layout}

-- how many compatibility options a header has beside those that its size counts: MBF21's byte 32
abbrev pub options_in : Engine → List ℕ → ℕ
options_in Mbf21 bytes = slice_index bytes 32
options_in _ bytes = 0

-- the bytes of a header, and the place of its players
abbrev pub header_size : Layout → List ℕ → ℕ
header_size layout bytes = layout.size + options_in layout.engine bytes

abbrev pub players_at : Layout → List ℕ → ℕ
players_at layout bytes = layout.players + options_in layout.engine bytes

-- the players' bytes: not 0 where a player is in the game
abbrev pub players_of : Layout → List ℕ → List ℕ
players_of layout bytes = take 4 (drop (players_at layout bytes) bytes)

-- why bytes begin with no header, the first reason that holds, where a wrapper of so many bytes stood before them
unfoldable pub refusal_by : Layout → ℕ → List ℕ → Option LaterFault
refusal_by layout before bytes =
    if not (starts_with nat_eq (signature_of layout.engine) (take (length (signature_of layout.engine)) (drop 1 bytes)))
    then Some (Signature (slice_index bytes 0) layout.engine)
    else (if nat_lt 25 (options_in layout.engine bytes)
    then Some (Options (options_in layout.engine bytes))
    else (if nat_lt (length bytes) (header_size layout bytes)
    then Some (Short (before + length bytes) (before + header_size layout bytes))
    else (if players_in (players_of layout bytes) == 0 then Some NoPlayers else None)))

abbrev pub refusal_of : Option Layout → ℕ → List ℕ → Option LaterFault
refusal_of (Some layout) before bytes = refusal_by layout before bytes
refusal_of None before bytes = Some (Version (slice_index bytes 0))

abbrev pub header_refusal : ℕ → List ℕ → Option LaterFault
header_refusal before bytes = refusal_of (layout_of (slice_index bytes 0)) before bytes

-- bytes that are a header, of a version that has so much
pub record IsHeader (bytes : List ℕ) (layout : Layout) : Type 0 where
  pub version : layout_of (slice_index bytes 0) ≡ Some layout
  pub long : length bytes ≡ header_size layout bytes
  pub signature : take (length (signature_of layout.engine)) (drop 1 bytes) ≡ signature_of layout.engine
  pub options : options_in layout.engine bytes ≤ 25
  pub players : 0 < players_in (players_of layout bytes)
