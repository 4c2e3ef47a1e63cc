-- What clauses see of a sink, and what a put does to it (ours).
use Rattle.std.specs.Prelude.{◌≡◌, Bool, ◌||◌, ℕ, ◌<◌, List, length, Option, Result, IfOk, is_err}
use Rattle.std.specs.Io.KnownBytes.{WriteAppends}
use Rattle.le_rec.specs.declared.to_write.ToWrite.{ToWrite}

-- the bytes that it has taken, where they are known, and whether a put has failed
pub record SinkState : Type 0 where
  pub taken : Option (List ℕ)
  pub failed : Bool

-- a put takes a front of the bytes, some of some; at an Err it takes none and has failed
pub record Takes {E : Type 0} (old new : SinkState) (result : Result ℕ E)
    (bytes : List ℕ) : Type 0 where
  pub moved : WriteAppends old.taken new.taken result bytes
  pub some : IfOk result (λ n. 0 < length bytes → 0 < n)
  pub fault : new.failed ≡ old.failed || is_err result

-- the writer inside
abbrev pub writer_of : {W : Type 0} → ToWrite W → W
writer_of s = s.writer

-- whether a put of it has failed
abbrev pub put_failed : {W : Type 0} → ToWrite W → Bool
put_failed s = s.failed
