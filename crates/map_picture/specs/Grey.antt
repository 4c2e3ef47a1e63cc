-- The colour of a sector, by its light (ours): a grey that is a little blue.
use Rattle.std.specs.Prelude.{ℕ, ◌+◌, ◌*◌, ◌/◌, ◌%◌, ℤ, pos, negsuc, List, ◌∷◌, min}
use Rattle.le_rec.specs.Name.{hex_digit}

-- a light cut to 0..255
abbrev pub cut_light : ℤ → ℕ
cut_light (pos n) = min n 255
cut_light (negsuc n) = 0

-- from 40 in the dark to 180
unfoldable pub shade : ℤ → ℕ
shade light = 40 + cut_light light * 140 / 255

-- a number below 256 by two hexadecimal digits, before other bytes
abbrev pub hex_text : ℕ → List ℕ → List ℕ
hex_text n rest = hex_digit (n / 16) ∷ hex_digit (n % 16) ∷ rest

-- red, green and blue, with 20 more of the blue, before other bytes
unfoldable pub grey : ℤ → List ℕ → List ℕ
grey light rest = hex_text (shade light) (hex_text (shade light) (hex_text (shade light + 20) rest))
