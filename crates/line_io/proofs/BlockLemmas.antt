-- The lines of a block, answered one after another.
use Rattle.std.proofs.Common.{◌≡◌, ◌≢◌, ℕ, Bool, false, List, [], ◌∷◌, ◌++◌, Ok, Err, inl, inr, refl, sym, ap, ◌∙◌, subst}
use Rattle.std.proofs.KnownBytes.{Appends-nil, Appends-trans}
use Rattle.std.proofs.lemmas.List.{append-nil, append_assoc}
use Rattle.std.specs.Io.KnownBytes.{Appends}
use Rattle.std.specs.List.{All}
use Rattle.le_rec.specs.Sink.{SinkState}
use Rattle.line_io.specs.AnswersLines.{EndsLines, LeavesWhole, LinesFault}
use Rattle.line_io.specs.declared.fault.IoFault.{IoFault}
use Rattle.line_io.specs.declared.fault.IoFault.TheVariants.{Memory, Read, TooLong, Write}
use Rattle.line_io.specs.LineAnswers.{answers_from, line_answer}
use Rattle.line_io.specs.Lines.{last_from}
use Rattle.line_io.specs.Writes.{EndsAnswer, TakesText, WriteFault}
use Rattle.line_io.proofs.LineLemmas.{answers_from-append, answers_from_line, answers_from_unbroken, last_from-append, last_from_line, last_from_unbroken}
use Rattle.line_io.proofs.WriteLemmas.{TakesText-stop, TakesText-then}

-- of a block behind `part` the lines in `done` are answered by the sink, which was `before` and is `after`, and the bytes
-- `rest` are still to be cut, behind `now`
pub record Answered (Answers : (List ℕ → List ℕ) → Type 0) (part block : List ℕ) (before : SinkState)
    (now rest : List ℕ) (after : SinkState) : Type 0 where
  pub done : List ℕ
  pub joined : block ≡ done ++ rest
  pub last : last_from part done ≡ now
  pub written : (f : List ℕ → List ℕ) → Answers f
      → Appends before.taken after.taken (answers_from f part done)

pub Answered-none : (Answers : (List ℕ → List ℕ) → Type 0) (part block : List ℕ) (before : SinkState)
    → Answered Answers part block before part block before
unfolding answers_from
Answered-none Answers part block before =
    record { done = []; joined = refl; last = refl; written = λ f _. Appends-nil before.taken }

-- a line at the end of a text
answers_from-last : (f : List ℕ → List ℕ) (part line : List ℕ) → All (λ b. b ≢ 10) line
    → answers_from f part (line ++ 10 ∷ []) ≡ line_answer f (part ++ line)
unfolding answers_from
answers_from-last f part line unbroken =
    answers_from_line f part line [] unbroken ∙ append-nil (line_answer f (part ++ line))

module _ {Answers : (List ℕ → List ℕ) → Type 0} {part block : List ℕ} {before : SinkState}
    {now rest : List ℕ} {after : SinkState}
    (so_far : Answered Answers part block before now rest after) where
  answers-rest : (f : List ℕ → List ℕ)
      → answers_from f part block ≡ answers_from f part so_far.done ++ answers_from f now rest
  answers-rest f =
      ap (answers_from f part) so_far.joined ∙ answers_from-append f part so_far.done rest
      ∙ ap (λ p. answers_from f part so_far.done ++ answers_from f p rest) so_far.last

  pub last-end : All (λ b. b ≢ 10) rest → last_from part block ≡ now ++ rest
  last-end unbroken =
      ap (last_from part) so_far.joined ∙ last_from-append part so_far.done rest
      ∙ ap (λ p. last_from p rest) so_far.last ∙ last_from_unbroken now rest unbroken

  pub Answered-end : (f : List ℕ → List ℕ) → Answers f → All (λ b. b ≢ 10) rest
      → Appends before.taken after.taken (answers_from f part block)
  Answered-end f told unbroken =
      subst (Appends before.taken after.taken) (sym (answers-rest f
      ∙ ap (λ t. answers_from f part so_far.done ++ t) (answers_from_unbroken f now rest unbroken)
      ∙ append-nil (answers_from f part so_far.done))) (so_far.written f told)

  -- the next line
  module _ (line more : List ℕ) (is_rest : rest ≡ line ++ 10 ∷ more) (unbroken : All (λ b. b ≢ 10) line) where
    answers-line : (f : List ℕ → List ℕ)
        → answers_from f part (so_far.done ++ (line ++ 10 ∷ []))
        ≡ answers_from f part so_far.done ++ line_answer f (now ++ line)
    answers-line f =
        answers_from-append f part so_far.done (line ++ 10 ∷ [])
        ∙ ap (λ p. answers_from f part so_far.done ++ answers_from f p (line ++ 10 ∷ [])) so_far.last
        ∙ ap (λ t. answers_from f part so_far.done ++ t) (answers_from-last f now line unbroken)

    pub Answered-line : (after' : SinkState)
        → ((f : List ℕ → List ℕ) → Answers f → Appends after.taken after'.taken (line_answer f (now ++ line)))
        → Answered Answers part block before [] more after'
    Answered-line after' wrote = record {
      done = so_far.done ++ (line ++ 10 ∷ []);
      joined = so_far.joined ∙ ap (λ r. so_far.done ++ r) is_rest ∙ simp append_assoc;
      last =
          last_from-append part so_far.done (line ++ 10 ∷ [])
          ∙ ap (λ p. last_from p (line ++ 10 ∷ [])) so_far.last
          ∙ last_from_line now line [] unbroken;
      written = λ f told.
          subst (Appends before.taken after'.taken) (sym (answers-line f))
          (Appends-trans before.taken after.taken after'.taken _ _ (so_far.written f told) (wrote f told));
    }

    pub Answered-stop : {T U : Type 0} (after' : SinkState) {e : IoFault} (f : List ℕ → List ℕ) → Answers f
        → TakesText {T = T} after after' (line_answer f (now ++ line)) (Err e)
        → TakesText {T = U} before after' (answers_from f part block) (Err e)
    Answered-stop {T} {U} after' {e} f told w =
        rw (
          answers-rest f,
          is_rest,
          answers_from_line f now line more unbroken,
        ) (TakesText-then before after after' _ (Err e) (so_far.written f told)
        (TakesText-stop (answers_from f [] more) w))

  -- whole answers were written, where the next wrote nothing
  pub Answered-whole : (f : List ℕ → List ℕ) → Answers f → LeavesWhole f part block before after
  Answered-whole f told = record {
    front = so_far.done;
    rest = rest;
    splits = so_far.joined;
    added = so_far.written f told;
  }

-- an answer has left a sound sink
pub EndsAnswer-sound : {T : Type 0} (memory : Bool) (before after : SinkState) (x : T)
    → EndsAnswer memory before after (Ok x) → after.failed ≡ false
EndsAnswer-sound memory before after x (inl ends) = ends.sound
EndsAnswer-sound memory before after x (inr none) = absurd (let f : ⊥ = cc (none.1) in f)

WriteFault-lines : (memory : Bool) (after : SinkState) (e : IoFault) → WriteFault after e → LinesFault memory after e
WriteFault-lines memory after Write h = h
WriteFault-lines memory after Read h = h
WriteFault-lines memory after TooLong h = h
WriteFault-lines memory after Memory h = absurd h

-- answers end as the last of them
pub EndsAnswer-lines : {T U : Type 0} (memory : Bool) (before after : SinkState) (e : IoFault) → before.failed ≡ false
    → EndsAnswer {T = T} memory before after (Err e) → EndsLines {T = U} memory after (Err e)
EndsAnswer-lines memory before after e sound (inl ends) =
    record { sound = tt; fault = WriteFault-lines memory after e ends.fault }
EndsAnswer-lines {T} memory before after e sound (inr none) = record {
  sound = tt;
  fault =
      let is : e ≡ Memory = cc (none.1) in
      subst (LinesFault memory after) (sym is) (none.0, ap (λ (s : SinkState). s.failed) none.2 ∙ sound);
}

-- with `Memory` an answer has left the sink as it was
pub EndsAnswer-memory : {T : Type 0} (memory : Bool) (before after : SinkState) (e : IoFault)
    → EndsAnswer {T = T} memory before after (Err e) → e ≡ Memory → after ≡ before
EndsAnswer-memory memory before after e (inl ends) is = absurd (subst (WriteFault after) is ends.fault)
EndsAnswer-memory memory before after e (inr none) is = none.2
