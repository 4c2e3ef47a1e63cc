-- What a clause reads of a `SliceSink`.
use Rattle.std.specs.Prelude.{ℕ, ◌-◌, Bool, Some, ◌||◌, ◌&&◌, nat_lt, List, Result, Ok, Err, length, take, min, ◌==◌, if◌then◌else◌}
use Rattle.le_rec.specs.Sink.{SinkState}
use Rattle.le_rec.specs.declared.ends.EndFault.{EndFault}
use Rattle.test_refusals.specs.declared.sink.SliceSink.{SliceSink}

-- the bytes taken
abbrev pub bytes_taken : SliceSink → List ℕ
bytes_taken s = take s.count s.buffer.now

-- how many more bytes there is room for
abbrev pub room_left : SliceSink → ℕ
room_left s = length s.buffer.now - s.count

-- the most bytes that a put takes
abbrev pub most_put : SliceSink → ℕ
most_put s = s.most

-- the put that fails, counted from 1, or 0
abbrev pub failing_put : SliceSink → ℕ
failing_put s = s.calls

-- whether a put has failed
abbrev pub put_failed : SliceSink → Bool
put_failed s = s.failed

-- what every sink tells of itself
abbrev pub state_of : SliceSink → SinkState
state_of s = record { taken = Some (bytes_taken s); failed = put_failed s }

-- what a put of this many bytes answers
abbrev pub put_answer : SliceSink → ℕ → Result ℕ EndFault
put_answer s n =
    if s.calls == 1 || room_left s == 0 && nat_lt 0 n then Err (record {}) else Ok (min (min n s.most) (room_left s))
