-- Texts in parts (ours).
use Rattle.std.specs.Prelude.{ℕ, ◌+◌, List, [], ◌∷◌}
use Rattle.std.specs.List.{flat_map}

-- the parts one after another
abbrev pub joined : List (List ℕ) → List ℕ
joined parts = flat_map (λ part. part) parts

-- the texts of items, numbered on from a number
abbrev pub numbered : {X : Type 0} → (ℕ → X → List ℕ) → ℕ → List X → List (List ℕ)
numbered text number [] = []
numbered text number (x ∷ xs) = text number x ∷ numbered text (number + 1) xs
