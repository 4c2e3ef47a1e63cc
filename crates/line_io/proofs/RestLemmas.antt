-- The rest of a list from a place on.
use Rattle.std.proofs.Common.{◌≡◌, ℕ, zero, suc, ◌+◌, ◌<◌, List, [], ◌∷◌, ◌++◌, length, drop, Some, None, refl, arith}
use Rattle.std.specs.List.{flat_map, slice_get}
use Rattle.std.specs.Prelude.{slice_index_or}

-- the rest of a list begins with the item at its place
pub drop-at : {X : Type 0} (xs : List X) (i : ℕ) (x : X) → slice_get xs i ≡ Some x → drop i xs ≡ x ∷ drop (i + 1) xs
drop-at [] i x at = cc
drop-at (y ∷ xs) zero x at = let same : y ≡ x = cc in rw same refl
drop-at (y ∷ xs) (suc i) x at = let next : suc i + 1 ≡ suc (i + 1) = omega arith in rw next (drop-at xs i x at)

-- nothing stands at a place past the end
pub drop_past : {X : Type 0} (xs : List X) (i : ℕ) → slice_get xs i ≡ None → drop i xs ≡ []
drop_past [] zero at = refl
drop_past [] (suc i) at = refl
drop_past (x ∷ xs) zero at = cc
drop_past (x ∷ xs) (suc i) at = drop_past xs i at

-- the texts from a place on
pub texts-drop : (texts : List (List ℕ)) (i : ℕ) → i < length texts → flat_map (λ text. text) (drop i texts) ≡ slice_index_or texts i [] ++ flat_map (λ text. text) (drop (i + 1) texts)
texts-drop [] i below = absurd (omega arith)
texts-drop (text ∷ texts) zero below = refl
texts-drop (text ∷ texts) (suc i) below = let next : suc i + 1 ≡ suc (i + 1) = omega arith in rw next (texts-drop texts i (omega arith))
