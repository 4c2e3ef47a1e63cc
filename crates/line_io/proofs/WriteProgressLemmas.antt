-- A text that is written part by part.
use Rattle.std.proofs.Common.{◌≡◌, ℕ, false, List, [], ◌++◌, Ok, Err, refl, sym, ap, ◌∙◌, subst}
use Rattle.std.proofs.KnownBytes.{Appends-nil, Appends-trans}
use Rattle.std.proofs.lemmas.List.{append-nil, append_assoc}
use Rattle.std.specs.Io.KnownBytes.{Appends}
use Rattle.le_rec.specs.Sink.{SinkState}
use Rattle.line_io.specs.Writes.{Writes}
use Rattle.line_io.specs.declared.fault.IoFault.{IoFault}
use Rattle.line_io.proofs.WriteLemmas.{TakesFront-after, TakesFront-longer}

-- of the whole text the first part was taken, and the rest is still to be written
pub record SoFar (whole : List ℕ) (before after : SinkState) (rest : List ℕ) : Type 0 where
  pub done : List ℕ
  pub splits : whole ≡ done ++ rest
  pub taken : Appends before.taken after.taken done

pub SoFar-none : (whole : List ℕ) (before : SinkState) → SoFar whole before before whole
SoFar-none whole before = record { done = []; splits = refl; taken = Appends-nil before.taken }

pub SoFar-more : {whole : List ℕ} {before after : SinkState} {rest : List ℕ} (after' : SinkState)
    (text rest' : List ℕ)
    → SoFar whole before after rest → rest ≡ text ++ rest'
    → Appends after.taken after'.taken text → SoFar whole before after' rest'
SoFar-more {before = before} {after = after} after' text rest' s cut wrote = record {
  done = s.done ++ text;
  splits = s.splits ∙ ap (λ r. s.done ++ r) cut ∙ sym (append_assoc s.done text rest');
  taken = Appends-trans before.taken after.taken after'.taken s.done text s.taken wrote;
}

pub SoFar-stop : {T U : Type 0} {whole : List ℕ} {before between after : SinkState} {rest : List ℕ}
    {e : IoFault} (text rest' : List ℕ)
    → SoFar whole before between rest → rest ≡ text ++ rest'
    → Writes {T = T} between after text (Err e) → Writes {T = U} before after whole (Err e)
SoFar-stop {before = before} {between = between} {after = after} text rest' s cut w = record {
  takes = record {
    whole = tt;
    front =
        rw (s.splits, cut)
        (TakesFront-after before between after s.done s.taken
        (TakesFront-longer rest' w.takes.front));
  };
  ends = record { sound = tt; fault = w.ends.fault };
}

pub SoFar-end : {T : Type 0} {whole : List ℕ} {before after : SinkState} {rest : List ℕ} (x : T)
    → SoFar whole before after rest → rest ≡ [] → after.failed ≡ false
    → Writes before after whole (Ok x)
SoFar-end {before = before} {after = after} x s none sound = record {
  takes = record {
    whole =
        subst (Appends before.taken after.taken)
        (sym (s.splits ∙ ap (λ r. s.done ++ r) none ∙ append-nil s.done)) s.taken;
    front = tt;
  };
  ends = record { sound = sound; fault = tt };
}
