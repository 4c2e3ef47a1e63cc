-- What is written behind bytes that were handed on.
use Rattle.std.proofs.Common.{◌≡◌, ℕ, Bool, true, false, List, Option, Some, None, Result, Ok, Err, ap, ◌∙◌}
use Rattle.std.specs.Io.KnownBytes.{Appends, Keeps}
use Rattle.std.specs.Prelude.{◌||◌, is_err}
use Rattle.le_rec.specs.Sink.{SinkState}
use Rattle.line_io.specs.Writes.{TakesFront, Writes}
use Rattle.line_io.specs.declared.fault.IoFault.{IoFault}
use Rattle.line_io.specs.declared.fault.IoFault.TheVariants.{Read, Write, TooLong, Memory}
use Rattle.lens_texts.specs.Handing.{HandsOn}

-- texts behind bytes that are the same
pub appends_kept : (a b c : Option (List ℕ)) (text : List ℕ) → Keeps a b → Appends b c text → Appends a c text
appends_kept None b c text same added = tt
appends_kept (Some x) None c text same added = absurd same
appends_kept (Some x) (Some y) None text same added = absurd added
appends_kept (Some x) (Some y) (Some z) text same added = rw (← same) added

pub front_kept : (before between after : SinkState) (text : List ℕ) → Keeps before.taken between.taken → TakesFront between after text → TakesFront before after text
front_kept before between after text same a = record {
  front = a.front;
  rest = a.rest;
  splits = a.splits;
  added = appends_kept before.taken between.taken after.taken a.front same a.added;
}

-- handing on failed, or not
pub hand_ends : {T E : Type 0} (before after : SinkState) (result : Result T E) (failed : Bool) → HandsOn before after result → before.failed ≡ false → is_err result ≡ failed → after.failed ≡ failed
hand_ends before after result failed hands sound is = hands.failed ∙ ap (λ b. b || is_err result) sound ∙ is

-- a text was taken
pub text_taken : (before after : SinkState) (text : List ℕ) (result : Result (Unit {0}) IoFault) → Writes before after text result → is_err result ≡ false
    → Appends before.taken after.taken text × (after.failed ≡ false)
text_taken before after text (Ok x) wrote is = (wrote.takes.whole, wrote.ends.sound)
text_taken before after text (Err e) wrote is = absurd (let f : ⊥ = cc in f)

-- a front of it was
pub text_stopped : (before after : SinkState) (text : List ℕ) (result : Result (Unit {0}) IoFault) → Writes before after text result → is_err result ≡ true
    → TakesFront before after text × (after.failed ≡ true)
text_stopped before after text (Ok x) wrote is = absurd (let f : ⊥ = cc in f)
text_stopped before after text (Err Write) wrote is = (wrote.takes.front, wrote.ends.fault)
text_stopped before after text (Err Read) wrote is = absurd wrote.ends.fault
text_stopped before after text (Err TooLong) wrote is = absurd wrote.ends.fault
text_stopped before after text (Err Memory) wrote is = absurd wrote.ends.fault
