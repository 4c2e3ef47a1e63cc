-- Items of lists.
use Rattle.std.proofs.Common.{◌≡◌, ◌⊎◌, inl, inr, ℕ, zero, suc, List, [], ◌∷◌, ◌++◌, length, Some, refl, ap}
use Rattle.std.specs.List.{slice_get}

-- an item of a list and one more is the list's or the one
pub slice_get-last : {X : Type 0} (xs : List X) (x y : X) (i : ℕ) → slice_get (xs ++ y ∷ []) i ≡ Some x → (slice_get xs i ≡ Some x) ⊎ ((i ≡ length xs) × (x ≡ y))
slice_get-last [] x y zero e = inr (refl, cc)
slice_get-last [] x y (suc i) e = absurd cc
slice_get-last (z ∷ xs) x y zero e = inl e
slice_get-last (z ∷ xs) x y (suc i) e = elim (slice_get-last xs x y i e) [
  | inl there ↦ inl there
  | inr last ↦ inr (ap suc last.0, last.1)
]
