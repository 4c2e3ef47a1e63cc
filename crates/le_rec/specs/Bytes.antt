-- Lists of bytes (ours).
use Rattle.std.specs.Prelude.{ℕ, ◌<◌, List, slice_index}

-- each is below 256
pub record AreBytes (bytes : List ℕ) : Type 0 where
  pub each : (k : ℕ) → slice_index bytes k < 256
