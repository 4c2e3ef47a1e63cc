-- The text of a path in parts, a byte each.
use Rattle.std.proofs.Common.{◌≡◌, ℕ, List, [], ◌∷◌, ◌++◌, length, map, refl, sym, ap, ◌∙◌, append_assoc}
use Rattle.std.specs.List.{flat_map, range_with_len}
use Rattle.lens_texts.proofs.PathLemmas.{shown-bytes}
use Rattle.lens_texts.specs.ShownPath.{shown_at}
use Rattle.lens_texts.specs.Escape.{escaped, escaped_byte}
use Rattle.lens_texts.specs.Parts.{joined}
use Rattle.atlas_page.specs.Text.{path_byte, path_bytes, path_text}

escaped-both : (a b : List ℕ) → escaped (a ++ b) ≡ escaped a ++ escaped b
escaped-both [] b = refl
escaped-both (byte ∷ a) b = ap (λ t. escaped_byte byte ++ t) (escaped-both a b) ∙ sym (append_assoc (escaped_byte byte) (escaped a) (escaped b))

escaped-bytes : (path : List ℕ) (indexes : List ℕ) → escaped (flat_map (shown_at path) indexes) ≡ joined (map (path_byte path) indexes)
escaped-bytes path [] = refl
escaped-bytes path (at ∷ indexes) =
    escaped-both (shown_at path at) (flat_map (shown_at path) indexes) ∙ ap (λ t. path_byte path at ++ t) (escaped-bytes path indexes)

pub text-parts : (path : List ℕ) → path_text path ≡ joined (path_bytes path)
unfolding path_text
text-parts path = ap escaped (shown-bytes path) ∙ escaped-bytes path (range_with_len 0 (length path))
