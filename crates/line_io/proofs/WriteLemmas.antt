-- How one write after another comes together.
use Rattle.std.proofs.Common.{◌≡◌, ℕ, true, List, [], ◌++◌, Result, Ok, Err, refl, sym, ap, ◌∙◌}
use Rattle.std.proofs.KnownBytes.{Appends-nil, Appends-trans}
use Rattle.std.proofs.lemmas.List.{append_assoc}
use Rattle.std.specs.Io.KnownBytes.{Appends}
use Rattle.le_rec.specs.Sink.{SinkState}
use Rattle.line_io.specs.declared.fault.IoFault.{IoFault}
use Rattle.line_io.specs.declared.fault.IoFault.TheVariants as io
use Rattle.line_io.specs.Writes.{TakesFront, TakesText, Writes}

-- a front of the next text, behind a whole one
pub TakesFront-after : (before between after : SinkState) (text : List ℕ) {more : List ℕ}
    → Appends before.taken between.taken text → TakesFront between after more
    → TakesFront before after (text ++ more)
TakesFront-after before between after text whole a = record {
  front = text ++ a.front;
  rest = a.rest;
  splits = ap (λ t. text ++ t) a.splits ∙ sym (append_assoc text a.front a.rest);
  added = Appends-trans before.taken between.taken after.taken text a.front whole a.added;
}

-- a front of a text is one of a longer text
pub TakesFront-longer : {before after : SinkState} {text : List ℕ} (more : List ℕ)
    → TakesFront before after text → TakesFront before after (text ++ more)
TakesFront-longer more a = record {
  front = a.front;
  rest = a.rest ++ more;
  splits = ap (λ t. t ++ more) a.splits ∙ append_assoc a.front a.rest more;
  added = a.added;
}

-- a whole text is a front of a longer one
pub TakesFront-whole : (before after : SinkState) (text more : List ℕ)
    → Appends before.taken after.taken text → TakesFront before after (text ++ more)
TakesFront-whole before after text more whole =
    record { front = text; rest = more; splits = refl; added = whole }

-- nothing written
pub TakesText-nothing : {T : Type 0} (before : SinkState) (x : T)
    → TakesText before before [] (Ok x)
TakesText-nothing before x = record { whole = Appends-nil before.taken; front = tt }

-- behind a text that was written whole, one more text
pub TakesText-then : {T : Type 0} (before between after : SinkState) (text : List ℕ) {more : List ℕ}
    (result : Result T IoFault)
    → Appends before.taken between.taken text → TakesText between after more result
    → TakesText before after (text ++ more) result
TakesText-then before between after text (Ok x) whole w = record {
  whole = Appends-trans before.taken between.taken after.taken text _ whole w.whole;
  front = tt;
}
TakesText-then before between after text (Err e) whole w = record {
  whole = tt;
  front = TakesFront-after before between after text whole w.front;
}

-- a text that stopped, before more of it
pub TakesText-stop : {T U : Type 0} {before after : SinkState} {text : List ℕ} {e : IoFault}
    (more : List ℕ)
    → TakesText {T = T} before after text (Err e)
    → TakesText {T = U} before after (text ++ more) (Err e)
TakesText-stop more w = record { whole = tt; front = TakesFront-longer more w.front }

pub Writes-then : {T : Type 0} (before between after : SinkState) (text : List ℕ) {more : List ℕ}
    (result : Result T IoFault)
    → Appends before.taken between.taken text → Writes between after more result
    → Writes before after (text ++ more) result
Writes-then before between after text result whole w = record {
  takes = TakesText-then before between after text result whole w.takes;
  ends = w.ends;
}

pub Writes-stop : {T U : Type 0} {before after : SinkState} {text : List ℕ} {e : IoFault}
    (more : List ℕ)
    → Writes {T = T} before after text (Err e) → Writes {T = U} before after (text ++ more) (Err e)
Writes-stop more w =
    record {
      takes = TakesText-stop more w.takes;
      ends = record { sound = tt; fault = w.ends.fault };
    }

-- a text that stopped, stopped as its write failed
pub line_stopped : (between after : SinkState) (line : List ℕ) (e : IoFault) → Writes {T = Unit {0}} between after line (Err e) → after.failed ≡ true
line_stopped between after line io.Write writes = writes.ends.fault
line_stopped between after line io.Read writes = absurd writes.ends.fault
line_stopped between after line io.TooLong writes = absurd writes.ends.fault
line_stopped between after line io.Memory writes = absurd writes.ends.fault
