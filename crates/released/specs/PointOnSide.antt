-- The side of a partition as the released game computes it, on numbers of 32 bits (R_PointOnSide of
-- r_main.c, FixedMul of m_fixed.c and P_LoadNodes of p_setup.c, linuxdoom 1.10).
use Rattle.std.specs.Prelude.{ℤ, pos, ◌*ℤ◌, Bool, not, ◌==◌, int_lt, int_le, bit_and}
use Rattle.std.specs.Bool.{if◌then◌else◌}
use Rattle.std.specs.Ordering.{int_eq}
use Rattle.std.specs.Int.{w32, cast_unsigned, int_wrapping_sub, int_bit_xor, int_shr, int_wrap}
use Rattle.le_rec.specs.declared.records.Node.{Node}
use Rattle.map_geo.specs.declared.sides.Side.{Side}
use Rattle.map_geo.specs.declared.sides.Side.TheVariants.{Front, Back}
use Rattle.released.specs.declared.side.FixedNode.{FixedNode}

-- a whole number of map units in 16.16 fixed point (fixed_t)
abbrev pub fixed : ℤ → ℤ
fixed units = units *ℤ pos 65536

-- a node as the game holds it once it is loaded (node_t, P_LoadNodes)
abbrev pub fixed_node : Node → FixedNode
fixed_node node = record {
  x = fixed node.x;
  y = fixed node.y;
  dx = fixed node.dx;
  dy = fixed node.dy;
}

-- the highest of the 32 bits of a number
abbrev pub has_sign_bit : ℤ → Bool
has_sign_bit z = not (bit_and (cast_unsigned w32 z) 0x8000_0000 == 0)

-- the product of two numbers, with 16 bits of its fraction cut off, and what is left of that in 32
-- bits (FixedMul); a product of two numbers of 32 bits fits the 64 of its long long
abbrev pub fixed_mul : ℤ → ℤ → ℤ
fixed_mul a b = int_wrap w32 (int_shr (a *ℤ b) 16)

-- the game's answers: 1 is the back
abbrev pub back_if : Bool → Side
back_if back = if back then Back else Front

-- for an upright node: by the column of the point
abbrev pub released_upright : ℤ → FixedNode → Side
released_upright x node =
    if int_le x node.x
    then back_if (int_lt (pos 0) node.dy)
    else back_if (int_lt node.dy (pos 0))

-- for a level node: by the row of the point
abbrev pub released_level : ℤ → FixedNode → Side
released_level y node =
    if int_le y node.y
    then back_if (int_lt node.dx (pos 0))
    else back_if (int_lt (pos 0) node.dx)

-- for a node that is neither upright nor level, and how far the point is from its (x, y)
abbrev pub released_slanted : FixedNode → ℤ → ℤ → Side
released_slanted node dx dy =
    if has_sign_bit (int_bit_xor w32 (int_bit_xor w32 (int_bit_xor w32 node.dy node.dx) dx) dy)
    then back_if (has_sign_bit (int_bit_xor w32 node.dy dx))
    else if int_lt (fixed_mul dy (int_shr node.dx 16)) (fixed_mul (int_shr node.dy 16) dx)
    then Front
    else Back

-- R_PointOnSide, step by step
unfoldable pub released_side : ℤ → ℤ → FixedNode → Side
released_side x y node =
    if int_eq node.dx (pos 0)
    then released_upright x node
    else if int_eq node.dy (pos 0)
    then released_level y node
    else released_slanted node (int_wrapping_sub w32 x node.x) (int_wrapping_sub w32 y node.y)
