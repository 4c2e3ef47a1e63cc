-- What handing on does to a sink (ours).
use Rattle.std.specs.Prelude.{◌≡◌, ◌||◌, Result, is_err}
use Rattle.std.specs.Io.KnownBytes.{Keeps}
use Rattle.le_rec.specs.Sink.{SinkState}

-- it has taken the same bytes, and has failed at an Err
pub record HandsOn {T E : Type 0} (before after : SinkState) (result : Result T E) : Type 0 where
  pub bytes : Keeps before.taken after.taken
  pub failed : after.failed ≡ before.failed || is_err result
