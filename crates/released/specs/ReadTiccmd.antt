-- A command as the released game reads it from a demo (G_ReadDemoTiccmd of g_game.c, linuxdoom 1.10).
use Rattle.std.specs.Prelude.{ℕ, ℤ, pos, ◌==◌, List, slice_index, Option, Some, None, if◌then◌else◌}
use Rattle.std.specs.Int.{w8, w16, w32, int_wrap, int_shl}
use Rattle.released.specs.declared.ticcmd.Ticcmd.{Ticcmd}

-- a byte as a signed char
abbrev pub signed_char : ℕ → ℤ
signed_char byte = int_wrap w8 (pos byte)

-- a byte as an unsigned char, which is shifted by 8 as an int and put into a short
abbrev pub angle_turn : ℕ → ℤ
angle_turn byte = int_wrap w16 (int_shl w32 (pos byte) 8)

-- G_ReadDemoTiccmd: none at the end marker (DEMOMARKER)
abbrev pub released_ticcmd : List ℕ → Option Ticcmd
released_ticcmd bytes =
    if slice_index bytes 0 == 0x80
    then None
    else Some (record {
      forwardmove = signed_char (slice_index bytes 0);
      sidemove = signed_char (slice_index bytes 1);
      angleturn = angle_turn (slice_index bytes 2);
      buttons = slice_index bytes 3;
    })
