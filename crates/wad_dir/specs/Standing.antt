-- Where a stretch of bytes stands (ours).
use Rattle.std.specs.Prelude.{◌≡◌, ℕ, ℤ, pos, List, ◌++◌, length}

-- the bytes are some bytes, as many as the place says, then the stretch, then others
pub record StandsAt (bytes : List ℕ) (place : ℤ) (stretch : List ℕ) : Type 0 where
  pub before : List ℕ
  pub after : List ℕ
  pub joined : bytes ≡ before ++ (stretch ++ after)
  pub placed : pos (length before) ≡ place
