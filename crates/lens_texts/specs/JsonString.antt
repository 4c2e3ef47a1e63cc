-- Strings of JSON (RFC 8259, section 7), and its two truth values.
use Rattle.std.specs.Prelude.{ℕ, ◌/◌, ◌%◌, Bool, true, false, ◌==◌, ◌||◌, nat_lt, List, length, [], ◌∷◌, ◌++◌, codes, if◌then◌else◌}
use Rattle.std.specs.List.{flat_map}
use Rattle.std.specs.Str.Lossy.{utf8_lossy, replacement_bytes}
use Rattle.le_rec.specs.Name.{hex_digit}

-- a byte that can't stand for itself within a string: a control character, `"` or `\`
abbrev pub needs_escape : ℕ → Bool
needs_escape b = nat_lt b 32 || (b == 34 || b == 92)

-- such a byte as it is written: `"` and `\` behind a `\`, a control character by `\u00` and two hexadecimal digits
abbrev pub escape_of : ℕ → List ℕ
escape_of b =
    if nat_lt b 32 then codes "\\u00" ++ (hex_digit (b / 16) ∷ hex_digit (b % 16) ∷ [])
    else 92 ∷ b ∷ []

-- a byte of text within a string
abbrev pub escaped_byte : ℕ → List ℕ
escaped_byte b = if needs_escape b then escape_of b else b ∷ []

-- text within a string
abbrev pub escaped : List ℕ → List ℕ
escaped text = flat_map escaped_byte text

-- what stands for bytes that are no part of a text: U+FFFD, where there are some
abbrev pub replaced : List ℕ → List ℕ
replaced invalid = if length invalid == 0 then [] else replacement_bytes

-- bytes as a string: their text, with U+FFFD for each sequence that isn't UTF-8, in quotes
abbrev pub json_string : List ℕ → List ℕ
json_string bytes = 34 ∷ (escaped (utf8_lossy bytes) ++ 34 ∷ [])

-- true or false
abbrev pub bool_text : Bool → List ℕ
bool_text true = codes "true"
bool_text false = codes "false"
