-- What clauses see of a source, and what a pull does to it (ours).
use Rattle.std.specs.Prelude.{◌≡◌, Bool, ◌||◌, ℕ, List, Option, Result, is_err}
use Rattle.std.specs.Io.KnownBytes.{ReadConsumes}
use Rattle.le_rec.specs.declared.from_read.FromRead.{FromRead}

-- the bytes that are still to come, where they are known, and whether a pull has failed
pub record SourceState : Type 0 where
  pub left : Option (List ℕ)
  pub failed : Bool

-- a pull gives the next bytes, none only at the end or with no room; at an Err
-- it gives none and has failed
pub record Gives {E : Type 0} (old new : SourceState) (result : Result ℕ E)
    (buf : List ℕ) : Type 0 where
  pub moved : ReadConsumes old.left new.left result buf
  pub fault : new.failed ≡ old.failed || is_err result

-- the reader inside
abbrev pub reader_of : {R : Type 0} → FromRead R → R
reader_of s = s.reader

-- whether a pull of it has failed
abbrev pub pull_failed : {R : Type 0} → FromRead R → Bool
pull_failed s = s.failed
