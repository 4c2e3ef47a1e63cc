-- What bytes begin with, and what they are joined from (ours).
use Rattle.std.specs.Prelude.{◌≡◌, ℕ, List, [], ◌∷◌, ◌++◌}

-- no front of the bytes is such a piece
abbrev pub NoneBegins : {A : Type 0} → (List ℕ → A → Type 0) → List ℕ → Type 0
NoneBegins {A} IsPiece bytes =
    (x : A) (front rest : List ℕ) → bytes ≡ front ++ rest → IsPiece front x → ⊥

-- the bytes are such pieces, one after another
abbrev pub AreJoined : {A : Type 0} → (List ℕ → A → Type 0) → List ℕ → List A → Type 0
AreJoined IsPiece bytes [] = bytes ≡ []
AreJoined IsPiece bytes (x ∷ xs) =
    (front : List ℕ) × (rest : List ℕ) × (bytes ≡ front ++ rest) × IsPiece front x
    × AreJoined IsPiece rest xs
