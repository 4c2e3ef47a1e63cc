-- The laws of strings and of escaped bytes (ours).
use Rattle.std.specs.Prelude.{◌≡◌, ℕ, List, ◌∷◌, ◌++◌}
use Rattle.std.specs.Str.Lossy.{utf8_lossy}
use Rattle.json.specs.Lex.{between, lex, token}
use Rattle.json.specs.Token.{string}
use Rattle.lens_texts.specs.Escape.{StandsFor, escaped}
use Rattle.lens_texts.specs.JsonString.{json_string}

-- the kit's reader of JSON reads a written string as the bytes' text, and goes on behind it
abbrev pub StringsAreRead : Type 0
StringsAreRead = (bytes rest : List ℕ) → lex between (json_string bytes ++ rest) ≡ token (string (utf8_lossy bytes)) ∷ lex between rest

-- escaped bytes have no markup, and a reader takes them for the bytes
abbrev pub EscapedStandsFor : Type 0
EscapedStandsFor = (bytes : List ℕ) → StandsFor (escaped bytes) bytes
