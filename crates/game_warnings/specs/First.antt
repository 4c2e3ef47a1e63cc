-- The first number at which something holds (ours).
use Rattle.std.specs.Prelude.{ℕ, ◌<◌, Option, Some, None}

-- a number is the first of a kind
pub record IsFirst (is : ℕ → Type 0) (i : ℕ) : Type 0 where
  pub here : is i
  pub before : (k : ℕ) → k < i → ¬ is k

-- it is the first of those below n, where there is one
abbrev pub IsFirstBelow : (ℕ → Type 0) → ℕ → Option ℕ → Type 0
IsFirstBelow is n (Some i) = (i < n) × IsFirst is i
IsFirstBelow is n None = (k : ℕ) → k < n → ¬ is k
