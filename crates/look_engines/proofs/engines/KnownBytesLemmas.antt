-- What is known of bytes by what was taken of them.
use Rattle.std.specs.Prelude.{IfSome}
use Rattle.std.proofs.Common.{ℕ, List, ◌++◌, Option, Some, None, sym, ap, ◌∙◌, subst}
use Rattle.std.proofs.lemmas.List.{append-nil}
use Rattle.std.specs.Io.KnownBytes.{Consumes, IsAtEnd}

-- what holds of the bytes behind those that were taken, of all bytes
pub taken_then : (P Q : List ℕ → Type 0) (a b : Option (List ℕ)) (bytes : List ℕ) → Consumes a b bytes → ((more : List ℕ) → P more → Q (bytes ++ more)) → IfSome b P → IfSome a Q
taken_then P Q None b bytes given leads h = tt
taken_then P Q (Some all) None bytes given leads h = absurd given
taken_then P Q (Some all) (Some more) bytes given leads h = subst Q (sym given) (leads more h)

-- what holds of all bytes that begin with those that were taken
pub begun_with : (Q : List ℕ → Type 0) (a b : Option (List ℕ)) (bytes : List ℕ) → Consumes a b bytes → ((more : List ℕ) → Q (bytes ++ more)) → IfSome a Q
begun_with Q None b bytes given all = tt
begun_with Q (Some xs) None bytes given all = absurd given
begun_with Q (Some xs) (Some more) bytes given all = subst Q (sym given) (all more)

-- what holds of the bytes that were taken, where they were all
pub ended_with : (Q : List ℕ → Type 0) (a b : Option (List ℕ)) (bytes : List ℕ) → Consumes a b bytes → IsAtEnd b → Q bytes → IfSome a Q
ended_with Q None b bytes given end h = tt
ended_with Q (Some xs) None bytes given end h = absurd given
ended_with Q (Some xs) (Some more) bytes given end h = subst Q (sym (given ∙ ap (λ m. bytes ++ m) end ∙ append-nil bytes)) h
