-- Text within XML (XML 1.0, sections 2.4 and 4.6): bytes that would be read as markup stand as entities.
use Rattle.std.specs.Prelude.{◌≢◌, ℕ, List, [], ◌∷◌, ◌++◌, ◌==◌, codes, map, if◌then◌else◌}
use Rattle.lens_texts.specs.Parts.{joined}

-- a byte as it is written: `&`, `<`, `>` and `"` by their entities
abbrev pub escaped_byte : ℕ → List ℕ
escaped_byte b =
    if b == 38 then codes "&amp;"
    else (if b == 60 then codes "&lt;" else (if b == 62 then codes "&gt;" else (if b == 34 then codes "&quot;" else b ∷ [])))

-- bytes as they are written
abbrev pub escaped : List ℕ → List ℕ
escaped bytes = joined (map escaped_byte bytes)

-- a text without markup, and the bytes that a reader takes it for: outside entities it has no `&`, `<`, `>` and `"`
pub data StandsFor : List ℕ → List ℕ → Type 0 where
  nothing : StandsFor [] []
  byte : (b : ℕ) (text bytes : List ℕ) → b ≢ 38 → b ≢ 60 → b ≢ 62 → b ≢ 34 → StandsFor text bytes → StandsFor (b ∷ text) (b ∷ bytes)
  ampersand : (text bytes : List ℕ) → StandsFor text bytes → StandsFor (codes "&amp;" ++ text) (38 ∷ bytes)
  less_than : (text bytes : List ℕ) → StandsFor text bytes → StandsFor (codes "&lt;" ++ text) (60 ∷ bytes)
  greater_than : (text bytes : List ℕ) → StandsFor text bytes → StandsFor (codes "&gt;" ++ text) (62 ∷ bytes)
  quotation_mark : (text bytes : List ℕ) → StandsFor text bytes → StandsFor (codes "&quot;" ++ text) (34 ∷ bytes)
