-- Lines with which bytes begin, and their answers.
use Rattle.std.proofs.Common.{◌≡◌, ◌≢◌, ℕ, ◌-◌, ◌≤◌, List, [], ◌∷◌, ◌++◌, length, take, drop, map, arith, length-drop, refl, sym, ap, ◌∙◌, subst}
use Rattle.std.proofs.KnownBytes.{Appends-trans}
use Rattle.std.proofs.lemmas.List.{append_assoc, map-append, take-append-drop, take_all}
use Rattle.std.proofs.lemmas.List.Elements.{All-append, All-cons, All-head, All-nil, All-tail}
use Rattle.std.specs.Io.KnownBytes.{Appends}
use Rattle.std.specs.List.{All, flat_map}
use Rattle.le_rec.specs.Sink.{SinkState}
use Rattle.line_io.specs.AnswersLines.{LeavesWhole}
use Rattle.line_io.specs.LineAnswers.{answers_from, line_answer}
use Rattle.line_io.specs.Lines.{BeginsWith, TakesLines, content, ended_from, last_from}
use Rattle.line_io.specs.Writes.{TakesFront}
use Rattle.line_io.proofs.BlockLemmas.{Answered}
use Rattle.line_io.proofs.LineLemmas.{answers_from-append, ended_from-append, ended_from_unbroken, last_from-append, last_from_line, last_from_unbroken, line_answer_short}
use Rattle.line_io.proofs.WriteLemmas.{TakesFront-after}

abbrev IsShort : List ℕ → Type 0
IsShort inside = length inside ≤ 64

-- one line
pub BeginsWith-line : (bytes line rest : List ℕ) → bytes ≡ line ++ 10 ∷ rest → All (λ b. b ≢ 10) line
    → length (content line) ≤ 64 → BeginsWith bytes (content line ∷ []) rest
BeginsWith-line bytes line rest joined unbroken short =
    let cut : ended_from [] (line ++ 10 ∷ []) ≡ line ∷ [] =
    ended_from-append [] line (10 ∷ []) ∙ rw (ended_from_unbroken [] line unbroken, last_from_unbroken [] line unbroken) refl in
    record {
      done = line ++ 10 ∷ [];
      joined = joined ∙ sym (append_assoc line (10 ∷ []) rest);
      whole = last_from_line [] line [] unbroken;
      contents_are = ap (map content) cut;
      short = All-cons IsShort (content line) [] short (All-nil IsShort);
    }

-- some lines, and others behind them
pub BeginsWith-then : (bytes : List ℕ) (some : List (List ℕ)) (rest : List ℕ) (more : List (List ℕ)) (behind : List ℕ)
    → BeginsWith bytes some rest → BeginsWith rest more behind → BeginsWith bytes (some ++ more) behind
BeginsWith-then bytes some rest more behind a b = record {
  done = a.done ++ b.done;
  joined = a.joined ∙ ap (λ r. a.done ++ r) b.joined ∙ sym (append_assoc a.done b.done behind);
  whole = last_from-append [] a.done b.done ∙ ap (λ p. last_from p b.done) a.whole ∙ b.whole;
  contents_are =
      ap (map content) (ended_from-append [] a.done b.done ∙ ap (λ p. ended_from [] a.done ++ ended_from p b.done) a.whole)
      ∙ map-append content (ended_from [] a.done) (ended_from [] b.done)
      ∙ rw (a.contents_are, b.contents_are) refl;
  short = All-append IsShort some more a.short b.short;
}

short_answers : (f : List ℕ → List ℕ) (lines : List (List ℕ)) → All IsShort (map content lines)
    → flat_map (line_answer f) lines ≡ flat_map f (map content lines)
short_answers f [] short = refl
short_answers f (line ∷ lines) short =
    rw (
      line_answer_short f line (All-head IsShort (content line) (map content lines) short),
      short_answers f lines (All-tail IsShort (content line) (map content lines) short),
    ) refl

-- what those lines are answered
pub answers_of_front : (f : List ℕ → List ℕ) (bytes : List ℕ) (contents : List (List ℕ)) (rest : List ℕ)
    (begins : BeginsWith bytes contents rest) → answers_from f [] begins.done ≡ flat_map f contents
unfolding answers_from
answers_of_front f bytes contents rest begins =
    short_answers f (ended_from [] begins.done) (subst (All IsShort) (sym begins.contents_are) begins.short)
    ∙ ap (flat_map f) begins.contents_are

-- the bytes from a place on are all that are left
pub all_behind : (count : ℕ) (bytes : List ℕ) → take (length bytes - count) (drop count bytes) ≡ drop count bytes
all_behind count bytes = take_all (length bytes - count) (drop count bytes) (omega (arith, length-drop count bytes))

-- of a block some lines are answered, and then those of a front of what is left
module _ {Answers : (List ℕ → List ℕ) → Type 0} {part block : List ℕ} {before : SinkState} {rest : List ℕ} {after : SinkState}
    (so_far : Answered Answers part block before [] rest after) where
  answers-more : (f : List ℕ → List ℕ) (more : List ℕ)
      → answers_from f part (so_far.done ++ more) ≡ answers_from f part so_far.done ++ answers_from f [] more
  answers-more f more =
      answers_from-append f part so_far.done more ∙ ap (λ p. answers_from f part so_far.done ++ answers_from f p more) so_far.last

  pub Answered-more : (more behind : List ℕ) (after' : SinkState) → rest ≡ more ++ behind → last_from [] more ≡ []
      → ((f : List ℕ → List ℕ) → Answers f → Appends after.taken after'.taken (answers_from f [] more))
      → Answered Answers part block before [] behind after'
  Answered-more more behind after' is whole wrote = record {
    done = so_far.done ++ more;
    joined = so_far.joined ∙ ap (λ r. so_far.done ++ r) is ∙ sym (append_assoc so_far.done more behind);
    last = last_from-append part so_far.done more ∙ ap (λ p. last_from p more) so_far.last ∙ whole;
    written = λ f told.
        subst (Appends before.taken after'.taken) (sym (answers-more f more))
        (Appends-trans before.taken after.taken after'.taken _ _ (so_far.written f told) (wrote f told));
  }

  pub Answered-front : (count : ℕ) (after' : SinkState) → TakesLines rest count
      → ((f : List ℕ → List ℕ) → Answers f → Appends after.taken after'.taken (answers_from f [] (take count rest)))
      → Answered Answers part block before [] (drop count rest) after'
  Answered-front count after' taken wrote =
      Answered-more (take count rest) (drop count rest) after' (sym (take-append-drop count rest)) taken.whole wrote

  pub Answered-front_stop : (after' : SinkState) (f : List ℕ → List ℕ) → Answers f
      → TakesFront after after' (answers_from f [] rest) → TakesFront before after' (answers_from f part block)
  Answered-front_stop after' f told front =
      subst (TakesFront before after') (sym (ap (answers_from f part) so_far.joined ∙ answers-more f rest))
      (TakesFront-after before after after' (answers_from f part so_far.done) (so_far.written f told) front)

  pub Answered-front_whole : (after' : SinkState) (f : List ℕ → List ℕ) → Answers f
      → LeavesWhole f [] rest after after' → LeavesWhole f part block before after'
  Answered-front_whole after' f told left = record {
    front = so_far.done ++ left.front;
    rest = left.rest;
    splits = so_far.joined ∙ ap (λ r. so_far.done ++ r) left.splits ∙ sym (append_assoc so_far.done left.front left.rest);
    added =
        subst (Appends before.taken after'.taken) (sym (answers-more f left.front))
        (Appends-trans before.taken after.taken after'.taken _ _ (so_far.written f told) left.added);
  }
