-- Two messages, one after the other.
use Rattle.std.proofs.Common.{◌≡◌, ℕ, List, ◌++◌, Result, Ok, Err, false}
use Rattle.std.specs.Prelude.{is_err}
use Rattle.std.specs.Io.KnownBytes.{Appends}
use Rattle.le_rec.specs.Sink.{SinkState}
use Rattle.line_io.proofs.WriteLemmas.{Writes-then}
use Rattle.line_io.specs.Writes.{Writes}
use Rattle.line_io.specs.declared.fault.IoFault.{IoFault}

-- both were written whole
pub appended : {T U : Type 0} (before between after : SinkState) (text more : List ℕ) (first : Result T IoFault) (x : U) → false ≡ is_err first
    → Writes before between text first → Writes between after more (Ok x) → Appends before.taken after.taken (text ++ more)
appended before between after text more (Ok y) x whole first next = (Writes-then before between after text (Ok x) first.takes.whole next).takes.whole
appended before between after text more (Err e) x whole first next = absurd (let none : ⊥ = cc in none)
