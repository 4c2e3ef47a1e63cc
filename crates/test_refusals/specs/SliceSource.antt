-- What a clause reads of a `SliceSource`.
use Rattle.std.specs.Prelude.{ℕ, Bool, Some, List, Result, Ok, Err, length, min, ◌==◌, if◌then◌else◌}
use Rattle.le_rec.specs.Source.{SourceState}
use Rattle.le_rec.specs.declared.ends.EndFault.{EndFault}
use Rattle.test_refusals.specs.declared.source.SliceSource.{SliceSource}

-- the bytes still to come
abbrev pub bytes_left : SliceSource → List ℕ
bytes_left s = s.rest.now

-- the most bytes that a pull gives
abbrev pub most_pulled : SliceSource → ℕ
most_pulled s = s.most

-- the pull that fails, counted from 1, or 0
abbrev pub failing_pull : SliceSource → ℕ
failing_pull s = s.calls

-- whether a pull has failed
abbrev pub pull_failed : SliceSource → Bool
pull_failed s = s.failed

-- what every source tells of itself
abbrev pub state_of : SliceSource → SourceState
state_of s = record { left = Some (bytes_left s); failed = pull_failed s }

-- what a pull answers that has this much room
abbrev pub pull_answer : SliceSource → ℕ → Result ℕ EndFault
pull_answer s room = if s.calls == 1 then Err (record {}) else Ok (min (min room s.most) (length s.rest.now))
