-- Numbers in a row (ours).
use Rattle.std.specs.Prelude.{◌&&◌, ℤ, Bool, int_le}

-- a number stands from one up to another
abbrev pub is_between : ℤ → ℤ → ℤ → Bool
is_between least greatest number = int_le least number && int_le number greatest
