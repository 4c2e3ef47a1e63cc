-- Texts in parts: the part of a number, and the parts from one on.
use Rattle.std.proofs.Common.{◌≡◌, ℕ, zero, suc, ◌+◌, ◌<◌, ◌≤◌, List, [], ◌∷◌, ◌++◌, length, drop, Some, refl, ap, ◌∙◌, arith}
use Rattle.std.specs.Prelude.{slice_index_or}
use Rattle.std.specs.List.{slice_get}
use Rattle.std.proofs.lemmas.List.{drop_all}
use Rattle.lens_texts.specs.Parts.{joined, numbered}

-- the parts from a number on
pub parts-drop : (parts : List (List ℕ)) (i : ℕ) → i < length parts → joined (drop i parts) ≡ slice_index_or parts i [] ++ joined (drop (i + 1) parts)
parts-drop [] i below = absurd (omega arith)
parts-drop (part ∷ parts) zero below = refl
parts-drop (part ∷ parts) (suc i) below = let next : suc i + 1 ≡ suc (i + 1) = omega arith in rw next (parts-drop parts i (omega arith))

-- none is left behind the last
pub parts_past : (parts : List (List ℕ)) (i : ℕ) → length parts ≤ i → joined (drop i parts) ≡ []
parts_past parts i past = ap joined (drop_all i parts past)

-- the part of a numbered item
pub numbered_part : {X : Type 0} (text : ℕ → X → List ℕ) (from : ℕ) (xs : List X) (i n : ℕ) (x : X) → n ≡ from + i → slice_get xs i ≡ Some x
    → slice_index_or (numbered text from xs) i [] ≡ text n x
numbered_part text from [] i n x is at = cc
numbered_part text from (y ∷ xs) zero n x is at = let same : y ≡ x = cc in let here : from ≡ n = omega arith in ap (λ m. text m y) here ∙ ap (text n) same
numbered_part text from (y ∷ xs) (suc i) n x is at = numbered_part text (from + 1) xs i n x (omega arith) at

-- there are as many as items
pub length-numbered : {X : Type 0} (text : ℕ → X → List ℕ) (from : ℕ) (xs : List X) → length (numbered text from xs) ≡ length xs
length-numbered text from [] = refl
length-numbered text from (x ∷ xs) = ap suc (length-numbered text (from + 1) xs)
