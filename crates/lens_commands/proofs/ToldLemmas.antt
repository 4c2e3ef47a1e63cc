-- What an end is told that has failed.
use Rattle.std.proofs.Common.{◌≡◌, true, ℕ, List, [], Err, refl}
use Rattle.std.proofs.KnownBytes.{Appends-nil}
use Rattle.le_rec.specs.Sink.{SinkState}
use Rattle.line_io.specs.declared.fault.IoFault.TheVariants.{Write}
use Rattle.lens_reports.specs.Run.{IsTold}

-- nothing, which is a front of each text
pub told_none : (end : SinkState) (text : List ℕ) → end.failed ≡ true → IsTold end end text
told_none end text failed = (
  Err Write,
  record {
    takes = record { whole = tt; front = record { front = []; rest = text; splits = refl; added = Appends-nil end.taken } };
    ends = record { sound = tt; fault = failed };
  },
)
