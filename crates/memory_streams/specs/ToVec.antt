-- What a clause sees of a `ToVec` (ours).
use Rattle.std.specs.Prelude.{ℕ, Bool, Some, List}
use Rattle.le_rec.specs.Sink.{SinkState}

-- the bytes taken, how many more it takes before it asks for a growth, and whether a put has failed
pub record ToVec : Type 0 where
  pub taken : List ℕ
  pub room : ℕ
  pub failed : Bool

-- what every sink tells of itself
abbrev pub state_of : ToVec → SinkState
state_of s = record { taken = Some s.taken; failed = s.failed }
