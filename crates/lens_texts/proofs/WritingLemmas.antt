-- Texts that are written in parts.
use Rattle.std.proofs.Common.{◌≡◌, ℕ, List, ◌++◌, Result, Ok, Err, sym, ap, ◌∙◌, subst}
use Rattle.le_rec.specs.Sink.{SinkState}
use Rattle.line_io.specs.Writes.{Writes}
use Rattle.line_io.specs.declared.fault.IoFault.{IoFault}
use Rattle.line_io.proofs.WriteLemmas.{Writes-then}
use Rattle.line_io.proofs.WriteProgressLemmas.{SoFar}

-- behind a text that was written whole, one more
pub Writes-after : {T U : Type 0} {before between after : SinkState} {text more : List ℕ} {x : U} {result : Result T IoFault}
    → Writes before between text (Ok x) → Writes between after more result → Writes before after (text ++ more) result
Writes-after {before = before} {between = between} {after = after} {text = text} {result = result} first next =
    Writes-then before between after text result first.takes.whole next

-- behind a text that was written whole, one that stopped
pub Writes-later : {T U V : Type 0} {before between after : SinkState} {text more : List ℕ} {x : U} {e : IoFault}
    → Writes before between text (Ok x) → Writes {T = T} between after more (Err e) → Writes {T = V} before after (text ++ more) (Err e)
Writes-later first next =
    let stopped = Writes-after first next in
    record {
      takes = record { whole = tt; front = stopped.takes.front };
      ends = record { sound = tt; fault = stopped.ends.fault };
    }

-- the last part of a text
pub SoFar-last : {T : Type 0} {whole : List ℕ} {before between after : SinkState} {rest last : List ℕ} {result : Result T IoFault}
    → SoFar whole before between rest → rest ≡ last → Writes between after last result → Writes before after whole result
SoFar-last {before = before} {between = between} {after = after} {last = last} {result = result} s is w =
    subst (λ (text : List ℕ). Writes before after text result) (sym (s.splits ∙ ap (λ t. s.done ++ t) is))
    (Writes-then before between after s.done result s.taken w)
