-- What is reported where there is no answer (ours).
use Rattle.std.specs.Prelude.{◌≡◌, List, ℕ}
use Rattle.std.specs.Io.KnownBytes.{Appends}
use Rattle.le_rec.specs.Sink.{SinkState}
use Rattle.lens_engines.specs.declared.verdict.Verdict.{Verdict}

-- a line of standard error was written and nothing else, and this was found
pub record TellsWhy (line : List ℕ) (found : Verdict) (out out' errors errors' : SinkState) (verdict : Verdict) : Type 0 where
  pub untouched : out' ≡ out
  pub message : Appends errors.taken errors'.taken line
  pub says : verdict ≡ found
