-- The path of a file as lines and messages show it (ours). No control character is written as it is, so no file name can rewrite a terminal or break a
-- line. The controls are those of ISO 6429: the bytes below 32, 127, and in UTF-8 C2 followed by 80 to 9F.
use Rattle.std.specs.Prelude.{ℕ, ◌+◌, ◌-◌, ◌/◌, ◌%◌, Bool, ◌==◌, ◌||◌, ◌&&◌, nat_lt, nat_le, List, [], ◌∷◌, ◌++◌, get_or, if◌then◌else◌}
use Rattle.le_rec.specs.Name.{hex_digit}

-- a control of eight bits, as UTF-8 has it
abbrev pub is_wide_control : ℕ → ℕ → Bool
is_wide_control first second = first == 194 && (nat_le 128 second && nat_le second 159)

-- a byte between two others (0 at the ends) is a control, or part of one
abbrev pub is_control : ℕ → ℕ → ℕ → Bool
is_control before byte behind =
    nat_lt byte 32 || (byte == 127 || (is_wide_control byte behind || is_wide_control before byte))

-- `\x` and two hexadecimal digits
abbrev pub control_text : ℕ → List ℕ
control_text byte = 92 ∷ 120 ∷ hex_digit (byte / 16) ∷ hex_digit (byte % 16) ∷ []

abbrev pub shown_byte : ℕ → ℕ → ℕ → List ℕ
shown_byte before byte behind = if is_control before byte behind then control_text byte else byte ∷ []

-- bytes behind another
unfoldable pub shown_after : ℕ → List ℕ → List ℕ
shown_after before [] = []
shown_after before (byte ∷ rest) = shown_byte before byte (get_or rest 0 0) ++ shown_after byte rest

abbrev pub shown_path : List ℕ → List ℕ
shown_path path = shown_after 0 path

-- the byte at an index is a control, or part of one
abbrev pub is_control_at : List ℕ → ℕ → Bool
is_control_at path at =
    is_control (if at == 0 then 0 else get_or path (at - 1) 0) (get_or path at 0) (get_or path (at + 1) 0)

-- the byte at an index, as it is shown
abbrev pub shown_at : List ℕ → ℕ → List ℕ
shown_at path at = if is_control_at path at then control_text (get_or path at 0) else get_or path at 0 ∷ []

-- a byte that is a control, or with which one may begin
abbrev pub is_suspect : ℕ → Bool
is_suspect byte = nat_lt byte 32 || (byte == 127 || byte == 194)
