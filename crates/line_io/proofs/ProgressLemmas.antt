-- An input, answered one block after another.
use Rattle.std.proofs.Common.{◌≡◌, ℕ, ◌+◌, ◌≤◌, ◌<◌, Bool, true, false, List, [], ◌++◌, length, take, drop, Result, Ok, Err, inl, inr, ◌⊎◌, refl, sym, ap, ◌∙◌, subst, arith, length-append}
use Rattle.std.proofs.KnownBytes.{Appends-nil, Appends-trans, Consumes-kept, Consumes-nil, Consumes-trans, Consumes-whole}
use Rattle.std.proofs.lemmas.List.{append-nil, append_assoc, take-append-drop, take_all}
use Rattle.std.proofs.Math.Seq.{take-append-add}
use Rattle.std.specs.Io.KnownBytes.{Appends, Consumes, IsAtEnd, Keeps}
use Rattle.le_rec.specs.Sink.{SinkState}
use Rattle.le_rec.specs.Source.{SourceState}
use Rattle.le_rec.proofs.SourceLemmas.{Consumes-front}
use Rattle.line_io.specs.declared.fault.IoFault.{IoFault}
use Rattle.line_io.specs.declared.fault.IoFault.TheVariants.{Read, Write, TooLong, Memory}
use Rattle.line_io.specs.AnswersLines.{AnswersLines, EndsLines, EngineFault, LeavesAnswers, LeavesWhole, LinesFault, WritesAnswers}
use Rattle.line_io.specs.LineAnswers.{answers_from, last_answer, text_of}
use Rattle.line_io.specs.Lines.{last_from}
use Rattle.line_io.specs.Writes.{EndsAnswer, TakesFront, TakesText}
use Rattle.line_io.proofs.BlockLemmas.{EndsAnswer-lines, EndsAnswer-memory, EndsAnswer-sound}
use Rattle.line_io.proofs.LineLemmas.{answers_from-append, answers_from-take, last_answer-take, last_from-append, last_from-take, text_of-append, text_of-parts}
use Rattle.line_io.proofs.WriteLemmas.{TakesFront-after, TakesFront-longer, TakesFront-whole}

-- the source, which was `input` and is `input'`, gave `count` bytes; the lines that end in them are
-- answered by the sink, which was `out` and is `out'`, and `part` is kept of the last one
pub record Progress (Answers : (List ℕ → List ℕ) → Type 0) (count : ℕ) (input input' : SourceState)
    (out out' : SinkState) (part : List ℕ) : Type 0 where
  pub read : List ℕ
  pub counted : length read ≡ count
  pub given : Consumes input.left input'.left read
  pub kept : part ≡ take 66 (last_from [] read)
  pub answered : (f : List ℕ → List ℕ) → Answers f
      → Appends out.taken out'.taken (answers_from f [] read)

pub Progress-none : (Answers : (List ℕ → List ℕ) → Type 0) (input : SourceState) (out : SinkState)
    → Progress Answers 0 input input out out []
unfolding answers_from
Progress-none Answers input out = record {
  read = [];
  counted = refl;
  given = Consumes-nil input.left;
  kept = refl;
  answered = λ f _. Appends-nil out.taken;
}

-- why lines weren't answered is a fault of an engine of lines, and says nothing of all answers
fault_of_lines : (memory : Bool) (limit : ℕ) (read : List ℕ) (input : SourceState)
    (out : SinkState) (e : IoFault) → input.failed ≡ false
    → LinesFault memory out e → EngineFault memory limit read input out e
fault_of_lines memory limit read input out Write works h = (works, h)
fault_of_lines memory limit read input out Memory works h = (works, h.1, h.0)
fault_of_lines memory limit read input out _ works h = absurd h

answers_of_lines : (memory : Bool) (out : SinkState) (e : IoFault) → LinesFault memory out e
    → LeavesAnswers e → ⊥
answers_of_lines memory out Write h l = l
answers_of_lines memory out Memory h l = l
answers_of_lines memory out _ h l = h

stopped : (f : List ℕ → List ℕ) (limit : ℕ) (read : List ℕ) (input input' : SourceState)
    (out out' : SinkState) (e : IoFault)
    → Consumes input.left input'.left read
    → ((rest : List ℕ) → TakesFront out out' (text_of f (read ++ rest)))
    → (LeavesAnswers e → Appends out.taken out'.taken (answers_from f [] (take limit read)))
    → (e ≡ Memory → LeavesWhole f [] (take limit read) out out')
    → WritesAnswers f limit read input out out' (Err e)
stopped f limit read input input' out out' e gave front answered unbroken = record {
  whole = tt;
  front =
      let here : TakesFront out out' (text_of f (read ++ [])) = front [] in rw append-nil at here;
  front_of_all =
      Consumes-front input.left input'.left read
      (λ left. TakesFront out out' (text_of f left)) gave front;
  answered = answered;
  unbroken = unbroken;
}

module _ {Answers : (List ℕ → List ℕ) → Type 0} {count : ℕ} {input input' : SourceState}
    {out out' : SinkState} {part : List ℕ}
    (p : Progress Answers count input input' out out' part) where
  -- what a block adds to the answers
  answers-more : (f : List ℕ → List ℕ) (block : List ℕ)
      → answers_from f [] p.read ++ answers_from f part block ≡ answers_from f [] (p.read ++ block)
  answers-more f block =
      ap (λ q. answers_from f [] p.read ++ answers_from f q block) p.kept
      ∙ ap (λ t. answers_from f [] p.read ++ t) (answers_from-take f (last_from [] p.read) block)
      ∙ sym (answers_from-append f [] p.read block)

  answered-more : (f : List ℕ → List ℕ) (out'' : SinkState) (block : List ℕ) → Answers f
      → Appends out'.taken out''.taken (answers_from f part block)
      → Appends out.taken out''.taken (answers_from f [] (p.read ++ block))
  answered-more f out'' block told wrote =
      subst (Appends out.taken out''.taken) (answers-more f block)
      (Appends-trans out.taken out'.taken out''.taken _ _ (p.answered f told) wrote)

  pub Progress-more : (input'' : SourceState) (out'' : SinkState) (block part' : List ℕ)
      (count' : ℕ)
      → Consumes input'.left input''.left block
      → ((f : List ℕ → List ℕ) → Answers f
      → Appends out'.taken out''.taken (answers_from f part block))
      → part' ≡ take 66 (last_from part block) → count' ≡ count + length block
      → Progress Answers count' input input'' out out'' part'
  Progress-more input'' out'' block part' count' gave wrote keeps counts = record {
    read = p.read ++ block;
    counted = length-append p.read block ∙ ap (λ n. n + length block) p.counted ∙ sym counts;
    given = Consumes-trans input.left input'.left input''.left p.read block p.given gave;
    kept =
        keeps ∙ ap (λ q. take 66 (last_from q block)) p.kept
        ∙ last_from-take (last_from [] p.read) block
        ∙ ap (take 66) (sym (last_from-append [] p.read block));
    answered = λ f told. answered-more f out'' block told (wrote f told);
  }

  -- what was written of a front of the input is a front of its text
  front_of : (f : List ℕ → List ℕ) (out'' : SinkState) (block more : List ℕ) → Answers f
      → TakesFront out' out'' (answers_from f part block)
      → TakesFront out out'' (text_of f ((p.read ++ block) ++ more))
  front_of f out'' block more told a =
      rw (
        text_of-append f (p.read ++ block) more,
        ← answers-more f block,
      ) (TakesFront-longer _ (TakesFront-after out out' out'' _ (p.answered f told) a))

  -- the source failed
  pub ends_read : (memory : Bool) (limit : ℕ) (input'' : SourceState) → count ≤ limit
      → Keeps input'.left input''.left → input''.failed ≡ true → out'.failed ≡ false
      → AnswersLines Answers memory limit input input'' out out' (Err Read)
  ends_read memory limit input'' within stays failed sound =
      let short : length p.read ≤ limit = omega (arith, p.counted) in
      let gave = Consumes-kept input.left input'.left input''.left p.read p.given stays in
      record {
        read = p.read;
        given = gave;
        bounded = omega arith;
        within = tt;
        all_read = tt;
        sound = tt;
        fault = (failed, sound, short);
        written = λ f told. stopped f limit p.read input input'' out out' Read gave
            (λ rest. rw (text_of-append f p.read rest) (TakesFront-whole out out' _ _
            (p.answered f told)))
            (λ _.
            subst (λ r. Appends out.taken out'.taken (answers_from f [] r))
            (sym (take_all limit p.read short)) (p.answered f told))
            (λ is. absurd (let f : ⊥ = cc is in f));
      }

  last-kept : (f : List ℕ → List ℕ)
      → answers_from f [] p.read ++ last_answer f part ≡ text_of f p.read
  last-kept f =
      ap (λ t. answers_from f [] p.read ++ t) (ap (last_answer f) p.kept ∙ last_answer-take f _)
      ∙ sym (text_of-parts f p.read)

  -- the source is at its end, and the last part is answered
  pub ends_all : (memory : Bool) (limit : ℕ) (input'' : SourceState) (out'' : SinkState)
      (r : Result (Unit {0}) IoFault)
      → count ≤ limit → Consumes input'.left input''.left [] → IsAtEnd input''.left
      → input''.failed ≡ false → out'.failed ≡ false → EndsAnswer memory out' out'' r
      → ((f : List ℕ → List ℕ) → Answers f → TakesText out' out'' (last_answer f part) r)
      → AnswersLines Answers memory limit input input'' out out'' r
  ends_all memory limit input'' out'' r within same end works sound ends w =
      let short : length p.read ≤ limit = omega (arith, p.counted) in
      let joined = Consumes-trans input.left input'.left input''.left p.read [] p.given same in
      let gave : Consumes input.left input''.left p.read = rw append-nil at joined in
      elim r
      as (λ r. EndsAnswer memory out' out'' r
      → ((f : List ℕ → List ℕ) → Answers f → TakesText out' out'' (last_answer f part) r)
      → AnswersLines Answers memory limit input input'' out out'' r) [
        | Ok x ↦ λ ends w. record {
          read = p.read;
          given = gave;
          bounded = omega arith;
          within = short;
          all_read = end;
          sound = (works, EndsAnswer-sound memory out' out'' x ends);
          fault = tt;
          written = λ f told. record {
            whole =
                subst (Appends out.taken out''.taken) (last-kept f)
                (Appends-trans out.taken out'.taken out''.taken _ _ (p.answered f told)
                (w f told).whole);
            front = tt;
            front_of_all =
                Consumes-front input.left input''.left p.read (λ _. Unit {0}) gave (λ _. tt);
            answered = tt;
            unbroken = tt;
          };
        }
        | Err e ↦ λ ends w.
            let why : EndsLines {T = Unit {0}} memory out'' (Err e) =
            EndsAnswer-lines memory out' out'' e sound ends in
            record {
              read = p.read;
              given = gave;
              bounded = omega arith;
              within = tt;
              all_read = tt;
              sound = tt;
              fault = fault_of_lines memory limit p.read input'' out'' e works why.fault;
              written = λ f told.
                  let front : TakesFront out out'' (text_of f p.read) =
                  rw (← last-kept f)
                  (TakesFront-after out out' out'' _ (p.answered f told) (w f told).front) in
                  record {
                    whole = tt;
                    front = front;
                    front_of_all =
                        Consumes-whole input.left input''.left p.read
                        (λ left. TakesFront out out'' (text_of f left)) gave end front;
                    answered = λ l. absurd (answers_of_lines memory out'' e why.fault l);
                    unbroken =
                        λ is.
                        rw (
                          EndsAnswer-memory memory out' out'' e ends is,
                          take_all limit p.read short,
                        ) (record {
                          front = p.read;
                          rest = [];
                          splits = sym (append-nil p.read);
                          added = p.answered f told;
                        });
                  };
            }
      ] ends w

  -- of a block the bytes within the limit: all, or all but the last
  pub cut_at : (limit : ℕ) (block : List ℕ) (within : ℕ)
      → (count + within ≡ limit) ⊎ ((count + length block ≤ limit) × (within ≡ length block))
      → take limit (p.read ++ block) ≡ p.read ++ take within block
  cut_at limit block within (inl full) =
      let sum : length p.read + within ≡ limit = omega (arith, full, p.counted) in
      rw sum at (take-append-add p.read block within)
  cut_at limit block within (inr short) =
      take_all limit (p.read ++ block) (omega (arith, length-append p.read block, short.0, p.counted))
      ∙ ap (λ b. p.read ++ b) (sym (take_all within block (omega (arith, short.1))))

  -- a block was read, of which the first `within` bytes are within the limit,
  -- and its lines are answered
  module _ (limit : ℕ) (block : List ℕ) (input'' : SourceState) (out'' : SinkState) (within : ℕ)
      (room : count + length block ≤ limit + 1)
      (gave : Consumes input'.left input''.left block) (works : input''.failed ≡ false) where
    whole_given : Consumes input.left input''.left (p.read ++ block)
    whole_given = Consumes-trans input.left input'.left input''.left p.read block p.given gave

    cut : (rest : List ℕ)
        → (p.read ++ block) ++ rest ≡ (p.read ++ take within block) ++ (drop within block ++ rest)
    cut rest =
        ap (λ b. (p.read ++ b) ++ rest) (sym (take-append-drop within block))
        ∙ ap (λ t. t ++ rest) (sym (append_assoc p.read (take within block) (drop within block)))
        ∙ append_assoc (p.read ++ take within block) (drop within block) rest

    length-read : length (p.read ++ block) ≡ count + length block
    length-read = length-append p.read block ∙ ap (λ n. n + length block) p.counted

    front_cut : (f : List ℕ → List ℕ) (rest : List ℕ) → Answers f
        → TakesFront out' out'' (answers_from f part (take within block))
        → TakesFront out out'' (text_of f ((p.read ++ block) ++ rest))
    front_cut f rest told a =
        rw (cut rest) (front_of f out'' (take within block) (drop within block ++ rest) told a)

    -- the writer stopped
    pub ends_block : (memory : Bool) (e : IoFault)
        → take limit (p.read ++ block) ≡ p.read ++ take within block
        → EndsLines {T = Unit {0}} memory out'' (Err e)
        → ((f : List ℕ → List ℕ) → Answers f
        → TakesText {T = Unit {0}} out' out'' (answers_from f part (take within block)) (Err e))
        → ((f : List ℕ → List ℕ) → Answers f → e ≡ Memory
        → LeavesWhole f part (take within block) out' out'')
        → AnswersLines Answers memory limit input input'' out out'' (Err e)
    ends_block memory e at_limit ends w unbroken = record {
      read = p.read ++ block;
      given = whole_given;
      bounded = omega (arith, length-read);
      within = tt;
      all_read = tt;
      sound = tt;
      fault = fault_of_lines memory limit (p.read ++ block) input'' out'' e works ends.fault;
      written =
          λ f told.
          stopped f limit (p.read ++ block) input input'' out out'' e whole_given
          (λ rest. front_cut f rest told (w f told).front)
          (λ l. absurd (answers_of_lines memory out'' e ends.fault l))
          (λ is.
          let u = unbroken f told is in
          rw at_limit (record {
            front = p.read ++ u.front;
            rest = u.rest;
            splits =
                ap (λ b. p.read ++ b) u.splits ∙ sym (append_assoc p.read u.front u.rest);
            added = answered-more f out'' u.front told u.added;
          }));
    }

    -- the last byte of the block is past the limit
    pub ends_long : (memory : Bool) → limit < count + length block → within + 1 ≡ length block
        → out''.failed ≡ false
        → ((f : List ℕ → List ℕ) → Answers f
        → Appends out'.taken out''.taken (answers_from f part (take within block)))
        → AnswersLines Answers memory limit input input'' out out'' (Err TooLong)
    ends_long memory long all_but_one sound wrote =
        let at_limit = cut_at limit block within (inl (omega arith)) in
        record {
          read = p.read ++ block;
          given = whole_given;
          bounded = omega (arith, length-read);
          within = tt;
          all_read = tt;
          sound = tt;
          fault = (works, sound, omega (arith, length-read));
          written =
              λ f told.
              stopped f limit (p.read ++ block) input input'' out out'' TooLong whole_given
              (λ rest. front_cut f rest told (record {
                front = answers_from f part (take within block);
                rest = [];
                splits = sym (append-nil _);
                added = wrote f told;
              }))
              (λ _.
              subst (λ r. Appends out.taken out''.taken (answers_from f [] r)) (sym at_limit)
              (answered-more f out'' (take within block) told (wrote f told)))
              (λ is. absurd (let f : ⊥ = cc is in f));
        }
