-- Items that are left out.
use Rattle.std.proofs.Common.{◌≡◌, ℕ, zero, suc, ◌<◌, ◌≤◌, Bool, true, false, List, [], ◌∷◌, ◌++◌, length, map, get_or, refl, ap, arith}
use Rattle.std.specs.Prelude.{filter, if◌then◌else◌}
use Rattle.std.proofs.lemmas.Bool.{lt-ltb, le-ltb}
use Rattle.level_codes.specs.declared.code.ReportCode.{ReportCode}
use Rattle.lens_texts.specs.Parts.{joined}
use Rattle.lens_engines.specs.ReportCounts.{count_of}
use Rattle.atlas_page.specs.Items.{code_item, code_part}

-- one more item, which is chosen or not
chosen-more : {X : Type 0} (p : X → Bool) (text : X → List ℕ) (x : X) (xs : List X) (b : Bool) → p x ≡ b
    → joined (map (λ y. if p y then text y else []) xs) ≡ joined (map text (filter p xs))
    → joined (map (λ y. if p y then text y else []) (x ∷ xs)) ≡ joined (map text (filter p (x ∷ xs)))
chosen-more p text x xs true is so = rw is (ap (λ t. text x ++ t) so)
chosen-more p text x xs false is so = rw is so

-- texts of all items, empty where one isn't chosen, are those of the chosen ones
pub chosen : {X : Type 0} (p : X → Bool) (text : X → List ℕ) (xs : List X)
    → joined (map (λ x. if p x then text x else []) xs) ≡ joined (map text (filter p xs))
chosen p text [] = refl
chosen p text (x ∷ xs) = chosen-more p text x xs (p x) refl (chosen p text xs)

-- the item of a code of which there are so many
pub code_part-some : (counts : List ℕ) (code : ReportCode) → 0 < count_of counts code → code_part counts code ≡ code_item code (count_of counts code)
code_part-some counts code some = rw (lt-ltb 0 (count_of counts code) some) refl

-- and where there are none
pub code_part-none : (counts : List ℕ) (code : ReportCode) → count_of counts code ≤ 0 → code_part counts code ≡ []
code_part-none counts code none = rw (le-ltb 0 (count_of counts code) none) refl

-- the text of the item of a rank
pub text_at : {X : Type 0} (text : X → List ℕ) (xs : List X) (i : ℕ) (d : X) → i < length xs → get_or (map text xs) i [] ≡ text (get_or xs i d)
text_at text [] i d below = absurd (omega arith)
text_at text (x ∷ xs) zero d below = refl
text_at text (x ∷ xs) (suc i) d below = text_at text xs i d (omega arith)
