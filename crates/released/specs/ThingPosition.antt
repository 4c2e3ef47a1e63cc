-- The column or the row of the block in which a point lies, as the released game computes it
-- (P_SetThingPosition of p_maputl.c, P_LoadBlockMap of p_setup.c, linuxdoom 1.10).
use Rattle.std.specs.Prelude.{ℤ}
use Rattle.std.specs.Int.{w32, int_wrapping_sub, int_shr}
use Rattle.released.specs.PointOnSide.{fixed}

-- by the column, or the row, of the blockmap's origin (MAPBLOCKSHIFT is 16 + 7)
abbrev pub released_block : ℤ → ℤ → ℤ
released_block origin z = int_shr (int_wrapping_sub w32 (fixed z) (fixed origin)) 23
