-- What the released game writes into a demo (G_BeginRecording, G_WriteDemoTiccmd and G_CheckDemoStatus of g_game.c,
-- linuxdoom 1.10).
use Rattle.std.specs.Prelude.{ℕ, ℤ, pos, ◌%◌, List, [], ◌∷◌, ◌++◌}
use Rattle.std.specs.Int.{w8, w32, cast_unsigned, int_shr, int_wrapping_add}
use Rattle.std.specs.List.{flat_map}
use Rattle.demo_lump.specs.declared.header.Header.{Header}
use Rattle.released.specs.declared.ticcmd.Ticcmd.{Ticcmd}

-- an angle as an int, with 128 added and shifted by 8, put into a byte
abbrev pub angle_byte : ℤ → ℕ
angle_byte angleturn =
    cast_unsigned w32 (int_shr (int_wrapping_add w32 angleturn (pos 128)) 8) % 256

-- G_WriteDemoTiccmd: the four bytes, which the game then reads back into the command
abbrev pub released_written : Ticcmd → List ℕ
released_written ticcmd =
    cast_unsigned w8 ticcmd.forwardmove ∷ cast_unsigned w8 ticcmd.sidemove
    ∷ angle_byte ticcmd.angleturn ∷ ticcmd.buttons ∷ []

-- G_BeginRecording: the bytes of the header
abbrev pub header_bytes : Header → List ℕ
header_bytes header =
    header.version ∷ header.skill ∷ header.episode ∷ header.map ∷ header.deathmatch ∷ header.respawn
    ∷ header.fast ∷ header.no_monsters ∷ header.viewpoint ∷ header.players

-- G_CheckDemoStatus: behind them and the commands' bytes the marker (DEMOMARKER)
abbrev pub recorded : Header → List Ticcmd → List ℕ
recorded header ticcmds =
    header_bytes header ++ (flat_map released_written ticcmds ++ 0x80 ∷ [])
