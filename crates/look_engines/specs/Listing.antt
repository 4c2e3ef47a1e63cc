-- The text of a demo's listing (ours).
use Rattle.std.specs.Prelude.{ℕ, ◌+◌, ◌/◌, ◌%◌, List, [], ◌∷◌, ◌++◌, length, codes, slice_index}
use Rattle.std.specs.Fmt.{decimal, signed_decimal}
use Rattle.demo_lump.specs.Demo.{Demo}
use Rattle.demo_lump.specs.Header.{players_in}
use Rattle.demo_lump.specs.declared.command.Command.{Command}
use Rattle.demo_lump.specs.declared.header.Header.{Header}
use Rattle.le_rec.specs.Name.{hex_digit}
use Rattle.look_engines.specs.Turn.{player_of, tic_of}

-- two lower-case hexadecimal digits
abbrev pub hex_byte : ℕ → List ℕ
hex_byte byte = hex_digit (byte / 16) ∷ hex_digit (byte % 16) ∷ []

-- `<tic> <player> <forward> <side> <turn> <buttons>`
unfoldable pub ticcmd_line : ℕ → ℕ → Command → List ℕ
ticcmd_line tic player c =
    decimal tic ++ (codes " " ++ (decimal player ++ (codes " " ++ (signed_decimal c.forward ++ (codes " " ++ (signed_decimal c.side ++ (codes " "
    ++ (decimal c.turn ++ (codes " " ++ (hex_byte c.buttons ++ (10 ∷ [])))))))))))

-- the header's line: the nine numbers under their names, and the four players' bytes
unfoldable pub header_line : Header → List ℕ
header_line h =
    codes "demo version " ++ (decimal h.version ++ (codes " skill " ++ (decimal h.skill ++ (codes " episode " ++ (decimal h.episode
    ++ (codes " map " ++ (decimal h.map ++ (codes " deathmatch " ++ (decimal h.deathmatch ++ (codes " respawn " ++ (decimal h.respawn
    ++ (codes " fast " ++ (decimal h.fast ++ (codes " nomonsters " ++ (decimal h.no_monsters ++ (codes " viewpoint " ++ (decimal h.viewpoint
    ++ (codes " players " ++ (decimal (slice_index h.players 0) ++ (codes " " ++ (decimal (slice_index h.players 1)
    ++ (codes " " ++ (decimal (slice_index h.players 2) ++ (codes " " ++ (decimal (slice_index h.players 3) ++ (10 ∷ []))))))))))))))))))))))))))

-- `tics <full tics> odd <odd tic commands> after <bytes after the marker>`
unfoldable pub totals_line : ℕ → ℕ → ℕ → List ℕ
totals_line tics odd after = codes "tics " ++ (decimal tics ++ (codes " odd " ++ (decimal odd ++ (codes " after " ++ (decimal after ++ (10 ∷ []))))))

-- the lines of tic commands, numbered on from i
abbrev pub ticcmds_text : List ℕ → ℕ → List Command → List ℕ
ticcmds_text players i [] = []
ticcmds_text players i (c ∷ commands) = ticcmd_line (tic_of players i) (player_of players i) c ++ ticcmds_text players (i + 1) commands

-- the totals of so many tic commands: the full tics, those after the last of these, and the bytes after the marker
abbrev pub totals_text : List ℕ → ℕ → ℕ → List ℕ
totals_text players count after = totals_line (count / players_in players) (count % players_in players) after

-- the listing of a demo
abbrev pub listing : Demo → List ℕ
listing demo =
    header_line demo.header ++ (ticcmds_text demo.header.players 0 demo.commands ++ totals_text demo.header.players (length demo.commands) demo.after)
