-- How the lines of an input and their answers come together from parts of it.
use Rattle.std.specs.Prelude.{◌==◌, nat_lt}
use Rattle.std.proofs.Common.{◌≡◌, ◌≢◌, ℕ, zero, suc, ◌+◌, ◌-◌, ◌≤◌, ◌<◌, true, false, cond, inl, inr, List, [], ◌∷◌, ◌++◌, length, take, get_or, refl, sym, ap, ◌∙◌, arith, length-take}
use Rattle.std.proofs.lemmas.List.{append-nil, append_assoc, take_all, take-take}
use Rattle.std.proofs.lemmas.List.Concat.{flat_map-append}
use Rattle.std.proofs.lemmas.List.Elements.{All-head, All-tail}
use Rattle.std.proofs.lemmas.Bool.{cases_lt}
use Rattle.std.proofs.lemmas.Bool.Decides.{nat_tests}
use Rattle.std.specs.List.{All, flat_map}
use Rattle.line_io.specs.Lines.{content, ended_from, last_from}
use Rattle.line_io.specs.LineAnswers.{form_refused, line_answer, answers_from, last_answer, text_of}

-- one part after another

pub ended_from-append : (part xs ys : List ℕ)
    → ended_from part (xs ++ ys) ≡ ended_from part xs ++ ended_from (last_from part xs) ys
ended_from-append part [] ys = refl
ended_from-append part (b ∷ xs) ys =
    elim (b == 10)
    as (λ t. cond t (part ∷ ended_from [] (xs ++ ys)) (ended_from (part ++ b ∷ []) (xs ++ ys))
    ≡ cond t (part ∷ ended_from [] xs) (ended_from (part ++ b ∷ []) xs)
    ++ ended_from (cond t (last_from [] xs) (last_from (part ++ b ∷ []) xs)) ys) [
      | true ↦ ap (λ ls. part ∷ ls) (ended_from-append [] xs ys)
      | false ↦ ended_from-append (part ++ b ∷ []) xs ys
    ]

pub last_from-append : (part xs ys : List ℕ)
    → last_from part (xs ++ ys) ≡ last_from (last_from part xs) ys
last_from-append part [] ys = refl
last_from-append part (b ∷ xs) ys =
    elim (b == 10)
    as (λ t. cond t (last_from [] (xs ++ ys)) (last_from (part ++ b ∷ []) (xs ++ ys))
    ≡ last_from (cond t (last_from [] xs) (last_from (part ++ b ∷ []) xs)) ys) [
      | true ↦ last_from-append [] xs ys
      | false ↦ last_from-append (part ++ b ∷ []) xs ys
    ]

pub answers_from-append : (f : List ℕ → List ℕ) (part xs ys : List ℕ)
    → answers_from f part (xs ++ ys)
    ≡ answers_from f part xs ++ answers_from f (last_from part xs) ys
unfolding answers_from
answers_from-append f part xs ys =
    ap (flat_map (line_answer f)) (ended_from-append part xs ys)
    ∙ flat_map-append (line_answer f) _ _

pub text_of-parts : (f : List ℕ → List ℕ) (input : List ℕ)
    → text_of f input ≡ answers_from f [] input ++ last_answer f (last_from [] input)
unfolding answers_from last_answer text_of
text_of-parts f input = flat_map-append (line_answer f) _ _

-- what was answered of a front is a front of the whole text
pub text_of-append : (f : List ℕ → List ℕ) (xs ys : List ℕ)
    → text_of f (xs ++ ys)
    ≡ answers_from f [] xs
    ++ (answers_from f (last_from [] xs) ys ++ last_answer f (last_from [] (xs ++ ys)))
text_of-append f xs ys =
    text_of-parts f (xs ++ ys)
    ∙ ap (λ t. t ++ last_answer f (last_from [] (xs ++ ys))) (answers_from-append f [] xs ys)
    ∙ append_assoc (answers_from f [] xs) _ _

-- a part with no byte 10

not_break : (b : ℕ) → b ≢ 10 → (b == 10) ≡ false
not_break b h = grind (arith, nat_tests)

pub ended_from_unbroken : (part xs : List ℕ) → All (λ b. b ≢ 10) xs → ended_from part xs ≡ []
ended_from_unbroken part [] h = refl
ended_from_unbroken part (b ∷ xs) h =
    rw (not_break b (All-head (λ c. c ≢ 10) b xs h))
    (ended_from_unbroken (part ++ b ∷ []) xs (All-tail (λ c. c ≢ 10) b xs h))

pub last_from_unbroken : (part xs : List ℕ) → All (λ b. b ≢ 10) xs → last_from part xs ≡ part ++ xs
last_from_unbroken part [] h = sym (append-nil part)
last_from_unbroken part (b ∷ xs) h =
    rw (not_break b (All-head (λ c. c ≢ 10) b xs h)) (last_from_unbroken (part ++ b
    ∷ []) xs (All-tail (λ c. c ≢ 10) b xs h) ∙ append_assoc part (b ∷ []) xs)

pub answers_from_unbroken : (f : List ℕ → List ℕ) (part xs : List ℕ) → All (λ b. b ≢ 10) xs
    → answers_from f part xs ≡ []
unfolding answers_from
answers_from_unbroken f part xs h = ap (flat_map (line_answer f)) (ended_from_unbroken part xs h)

-- a line that a byte 10 ends, and the bytes behind it

pub answers_from_line : (f : List ℕ → List ℕ) (part line after : List ℕ) → All (λ b. b ≢ 10) line
    → answers_from f part (line ++ 10 ∷ after)
    ≡ line_answer f (part ++ line) ++ answers_from f [] after
unfolding answers_from
answers_from_line f part line after h =
    ap (flat_map (line_answer f)) (ended_from-append part line (10 ∷ after))
    ∙ rw (ended_from_unbroken part line h, last_from_unbroken part line h) refl

pub last_from_line : (part line after : List ℕ) → All (λ b. b ≢ 10) line
    → last_from part (line ++ 10 ∷ after) ≡ last_from [] after
last_from_line part line after h = last_from-append part line (10 ∷ after)

-- the first 66 bytes of a line decide its answer

length-content : (line : List ℕ) → length line ≤ length (content line) + 1
length-content line =
    elim (get_or line (length line - 1) 0 == 13)
    as (λ t. length line ≤ length (cond t (take (length line - 1) line) line) + 1) [
      | true ↦ omega (arith, length-take (length line - 1) line)
      | false ↦ omega arith
    ]

pub line_answer_long : (f : List ℕ → List ℕ) (line : List ℕ) → 64 < length (content line)
    → line_answer f line ≡ form_refused
unfolding line_answer
line_answer_long f line h =
    let t : nat_lt 64 (length (content line)) ≡ true = grind (arith, nat_tests) in
    rw t refl

pub line_answer_short : (f : List ℕ → List ℕ) (line : List ℕ) → length (content line) ≤ 64
    → line_answer f line ≡ f (content line)
unfolding line_answer
line_answer_short f line h =
    let t : nat_lt 64 (length (content line)) ≡ false = grind (arith, nat_tests) in
    rw t refl

long_answer : (f : List ℕ → List ℕ) (line : List ℕ) → 66 ≤ length line
    → line_answer f line ≡ form_refused
long_answer f line h = line_answer_long f line (omega (arith, length-content line))

pub line_answer-take : (f : List ℕ → List ℕ) (line : List ℕ)
    → line_answer f (take 66 line) ≡ line_answer f line
line_answer-take f line =
    elim (cases_lt 66 (length line)) [
      | inl long ↦
          long_answer f (take 66 line) (omega (arith, length-take 66 line))
          ∙ sym (long_answer f line (omega arith))
      | inr short ↦ ap (line_answer f) (take_all 66 line short)
    ]

-- a cut before more bytes is a cut after them
pub take-append-take : (n : ℕ) (xs ys : List ℕ) → take n (take n xs ++ ys) ≡ take n (xs ++ ys)
take-append-take zero xs ys = refl
take-append-take (suc n) [] ys = refl
take-append-take (suc n) (x ∷ xs) ys = ap (λ zs. x ∷ zs) (take-append-take n xs ys)

pub answers_from-take : (f : List ℕ → List ℕ) (part xs : List ℕ)
    → answers_from f (take 66 part) xs ≡ answers_from f part xs
unfolding answers_from
answers_from-take f part [] = refl
answers_from-take f part (b ∷ xs) =
    let here = line_answer-take f part in
    let cut : answers_from f (take 66 part ++ b ∷ []) xs ≡ answers_from f (part ++ b ∷ []) xs =
    sym (answers_from-take f (take 66 part ++ b ∷ []) xs)
    ∙ ap (λ p. answers_from f p xs) (take-append-take 66 part (b ∷ []))
    ∙ answers_from-take f (part ++ b ∷ []) xs in
    elim (b == 10)
    as (λ t. flat_map (line_answer f)
    (cond t (take 66 part ∷ ended_from [] xs) (ended_from (take 66 part ++ b ∷ []) xs))
    ≡ flat_map (line_answer f)
    (cond t (part ∷ ended_from [] xs) (ended_from (part ++ b ∷ []) xs))) [
      | true ↦ ap (λ a. a ++ flat_map (line_answer f) (ended_from [] xs)) here
      | false ↦ cut
    ]

pub last_from-take : (part xs : List ℕ)
    → take 66 (last_from (take 66 part) xs) ≡ take 66 (last_from part xs)
last_from-take part [] = take-take 66 66 part (omega arith)
last_from-take part (b ∷ xs) =
    let cut : take 66 (last_from (take 66 part ++ b ∷ []) xs)
    ≡ take 66 (last_from (part ++ b ∷ []) xs) =
    sym (last_from-take (take 66 part ++ b ∷ []) xs)
    ∙ ap (λ p. take 66 (last_from p xs)) (take-append-take 66 part (b ∷ []))
    ∙ last_from-take (part ++ b ∷ []) xs in
    elim (b == 10)
    as (λ t. take 66 (cond t (last_from [] xs) (last_from (take 66 part ++ b ∷ []) xs))
    ≡ take 66 (cond t (last_from [] xs) (last_from (part ++ b ∷ []) xs))) [
      | true ↦ refl
      | false ↦ cut
    ]

pub last_answer-take : (f : List ℕ → List ℕ) (part : List ℕ)
    → last_answer f (take 66 part) ≡ last_answer f part
unfolding last_answer
last_answer-take f [] = refl
last_answer-take f (b ∷ part) = ap (λ a. a ++ []) (line_answer-take f (b ∷ part))

-- a last part is answered if it isn't empty

pub last_answer_empty : (f : List ℕ → List ℕ) (part : List ℕ) → part ≡ [] → last_answer f part ≡ []
unfolding last_answer
last_answer_empty f part h = rw h refl

pub last_answer_some : (f : List ℕ → List ℕ) (part : List ℕ) → part ≢ []
    → last_answer f part ≡ line_answer f part
unfolding last_answer
last_answer_some f [] h = absurd (h refl)
last_answer_some f (b ∷ part) h = append-nil (line_answer f (b ∷ part))
