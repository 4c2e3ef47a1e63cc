-- Facts about the bytes that a source gave.
use Rattle.std.proofs.Common.{ℕ, Option, Some, None, IfSome, List, ◌++◌, sym, subst}
use Rattle.std.specs.Io.KnownBytes.{Consumes}

-- what holds of each list that begins with them holds of what was left, where that is known
pub Consumes-front : (a b : Option (List ℕ)) (bytes : List ℕ) (P : List ℕ → Type 0)
    → Consumes a b bytes → ((more : List ℕ) → P (bytes ++ more)) → IfSome a P
Consumes-front None b bytes P given h = tt
Consumes-front (Some left) None bytes P given h = absurd given
Consumes-front (Some left) (Some left') bytes P given h = subst P (sym given) (h left')
