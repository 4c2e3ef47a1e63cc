-- How many cells the longer side of a picture may have (ours).
use Rattle.std.specs.Prelude.{ℕ, ◌≤◌}

pub record IsCellCount (count : ℕ) : Type 0 where
  pub least : 1 ≤ count
  pub most : count ≤ 1024
