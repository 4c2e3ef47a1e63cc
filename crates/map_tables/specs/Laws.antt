-- Laws of BLOCKMAP (ours).
use Rattle.std.specs.Prelude.{◌≡◌, ℕ, ℤ, List}
use Rattle.map_tables.specs.Words.{Words, IsBlockList}

-- a block has one list at most
abbrev pub OneBlockList : Type 0
OneBlockList =
    (words : Words) (n : ℕ) (a b : List ℤ) → IsBlockList words n a → IsBlockList words n b → a ≡ b
