-- What reading a whole input does (ours).
use Rattle.std.specs.Prelude.{◌≡◌, ℕ, ◌+◌, ◌<◌, ◌≤◌, true, false, List, length, Result, OnOk, IfOk, IfErr}
use Rattle.std.specs.Io.KnownBytes.{Consumes, IsAtEnd}
use Rattle.std.specs.declared.vec.Vec.{Vec}
use Rattle.le_rec.specs.Source.{SourceState}
use Rattle.line_io.specs.declared.fault.IoFault.{IoFault}
use Rattle.line_io.specs.declared.fault.IoFault.TheVariants.{Read, TooLong, Memory}

-- when each fault may come: `Read` where the source has failed before a byte past the limit,
-- `TooLong` where such a byte was read, `Memory` where some byte was read and none past the limit
abbrev pub ReadFault : ℕ → SourceState → List ℕ → IoFault → Type 0
ReadFault limit after read Read = (after.failed ≡ true) × (length read ≤ limit)
ReadFault limit after read TooLong = (limit < length read) × (after.failed ≡ false)
ReadFault limit after read Memory =
    (0 < length read) × (length read ≤ limit) × (after.failed ≡ false)
ReadFault limit after read _ = ⊥

-- reading all of a source up to `limit` answers `result`
pub record ReadsAll {A : Type 0} (limit : ℕ) (before after : SourceState)
    (result : Result (Vec ℕ A) IoFault) : Type 0 where
  -- what the source gave
  pub read : List ℕ
  pub given : Consumes before.left after.left read
  pub bounded : length read ≤ limit + 1
  -- at Ok that is the whole input, within its limit
  pub whole : IfOk result (λ bytes. bytes.items ≡ read)
  pub within : OnOk result (length read ≤ limit)
  pub all_read : OnOk result (IsAtEnd after.left)
  pub sound : OnOk result (after.failed ≡ false)
  pub fault : IfErr result (ReadFault limit after read)
