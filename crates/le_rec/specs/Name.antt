-- Names of lumps and of textures (W_CheckNumForName of w_wad.c).
use Rattle.std.specs.Prelude.{ℕ, ◌+◌, ◌-◌, ◌/◌, ◌%◌, List, [], ◌∷◌, ◌++◌, length, take, map, replicate, nat_lt, nat_le, ◌==◌, ◌&&◌, not, if◌then◌else◌}
use Rattle.std.specs.List.{before_first, flat_map}
use Rattle.std.specs.Char.{to_ascii_uppercase}

-- the bytes before the first NUL, or all
abbrev pub name_of : List ℕ → List ℕ
name_of bytes = before_first (λ b. b == 0) bytes

-- a name followed by NULs, eight bytes in all
abbrev pub padded : List ℕ → List ℕ
padded name = name ++ replicate (8 - length name) 0

-- the name that is looked up for what was asked: of its first eight bytes, in capital letters
abbrev pub query_of : List ℕ → List ℕ
query_of asked = map to_ascii_uppercase (name_of (take 8 asked))

-- a hexadecimal digit, in lower case
abbrev pub hex_digit : ℕ → ℕ
hex_digit d = if nat_lt d 10 then 48 + d else 87 + d

-- a byte as it is shown: the visible ASCII characters but `\` as they are, the
-- others as `\x` and two digits
abbrev pub shown_byte : ℕ → List ℕ
shown_byte b =
    if nat_le 33 b && nat_le b 126 && not (b == 92)
    then b ∷ []
    else 92 ∷ 120 ∷ hex_digit (b / 16) ∷ hex_digit (b % 16) ∷ []

-- a name as it is shown
abbrev pub shown_name : List ℕ → List ℕ
shown_name name = flat_map shown_byte name
