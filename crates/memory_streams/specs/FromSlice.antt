-- What a clause reads of a `FromSlice` (ours).
use Rattle.std.specs.Prelude.{ℕ, false, Some, List}
use Rattle.le_rec.specs.Source.{SourceState}
use Rattle.memory_streams.specs.declared.from_slice.FromSlice.{FromSlice}

-- the bytes still to come
abbrev pub bytes_left : FromSlice → List ℕ
bytes_left s = s.rest.now

-- what every source tells of itself: its bytes, and that it never fails
abbrev pub state_of : FromSlice → SourceState
state_of s = record { left = Some (bytes_left s); failed = false }
