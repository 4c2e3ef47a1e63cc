-- What a clause sees of a sink that takes so many bytes at most (ours).
use Rattle.std.specs.Prelude.{ℕ, Bool, Some, List}
use Rattle.le_rec.specs.Sink.{SinkState}

-- the bytes taken, and whether a put has failed: there was no room, or a growth was refused
pub record AtMost : Type 0 where
  pub taken : List ℕ
  pub failed : Bool

-- what every sink tells of itself
abbrev pub state_of : AtMost → SinkState
state_of s = record { taken = Some s.taken; failed = s.failed }
