-- What clauses see of an output (ours): what it took, what of that is still held back, and how a write failed.
use Rattle.std.specs.Prelude.{◌≡◌, ℕ, Bool, true, false, is_err, ◌||◌, List, [], Option, Result, OnOk}
use Rattle.std.specs.Io.Buffered.{writer_buffer, writer_contents, writer_inner}
use Rattle.std.specs.Io.KnownBytes.{Keeps}
use Rattle.le_rec.specs.Sink.{SinkState}
use Rattle.std.specs.IoError.{error_kind}
use Rattle.std.specs.declared.io.Error.{Error}
use Rattle.std.specs.declared.io.ErrorKind.{ErrorKind}
use Rattle.std.specs.declared.io.ErrorKind.TheVariants.{BrokenPipe}
use Rattle.lens_reports.specs.declared.output.Output.{Output}

-- the bytes that it has taken, where those of the writer inside are known, and whether a write has failed
abbrev pub output_state : {W : Type 0} → (W → Option (List ℕ)) → Output W → SinkState
output_state contents output = record { taken = writer_contents contents output.buffer; failed = output.failed }

-- what it hasn't written yet
abbrev pub held_back : {W : Type 0} → Output W → List ℕ
held_back output = writer_buffer output.buffer

-- whether the last write that failed met a closed pipe
abbrev pub is_closed : {W : Type 0} → Output W → Bool
is_closed output = output.closed

-- over this writer, with nothing held back and no write that failed
pub record IsFresh {W : Type 0} (writer : W) (output : Output W) : Type 0 where
  pub over : writer_inner output.buffer ≡ writer
  pub empty : held_back output ≡ []
  pub sound : output.failed ≡ false
  pub unclosed : is_closed output ≡ false

abbrev pub is_broken_pipe : ErrorKind → Bool
is_broken_pipe BrokenPipe = true
is_broken_pipe _ = false

-- an output whose write failed by an error
abbrev pub failed_by : {W : Type 0} → Output W → Error → Output W
failed_by output error = record output { failed = true; closed = is_broken_pipe (error_kind error) }

-- what was held back was written out, and what is known of a closed pipe stays, or a write failed
pub record WritesOut {W E : Type 0} (contents : W → Option (List ℕ)) (old new : Output W) (result : Result (Unit {0}) E) : Type 0 where
  pub bytes : Keeps (writer_contents contents old.buffer) (writer_contents contents new.buffer)
  pub empty : OnOk result (held_back new ≡ [])
  pub failed : new.failed ≡ old.failed || is_err result
  pub closed : OnOk result (is_closed new ≡ is_closed old)
