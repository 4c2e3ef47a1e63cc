-- A path on the page (XML 1.0, sections 2.4 and 4.6): as lines show it, and nothing of it is read as markup.
use Rattle.std.specs.Prelude.{ℕ, List, length, map}
use Rattle.std.specs.List.{range_with_len}
use Rattle.lens_texts.specs.ShownPath.{shown_at, shown_path}
use Rattle.lens_texts.specs.Escape.{escaped}

unfoldable pub path_text : List ℕ → List ℕ
path_text path = escaped (shown_path path)

-- the byte at an index
abbrev pub path_byte : List ℕ → ℕ → List ℕ
path_byte path at = escaped (shown_at path at)

abbrev pub path_bytes : List ℕ → List (List ℕ)
path_bytes path = map (path_byte path) (range_with_len 0 (length path))
