-- The lines of an input, in words that name no walk over it.
use Rattle.std.proofs.Common.{◌≡◌, ◌≢◌, ℕ, ◌+◌, ◌-◌, inl, inr, List, [], ◌∷◌, ◌++◌, length, take, get_or, refl, sym, ap, ◌∙◌, arith}
use Rattle.std.proofs.lemmas.Bool.Decides.{eqb_tells}
use Rattle.std.proofs.lemmas.List.{append-nil, append_assoc, get_or_push, length_push, take_all, take_more}
use Rattle.std.proofs.lemmas.List.Elements.{All-append, All-cons, All-head, All-nil, All-tail}
use Rattle.std.specs.List.{All, flat_map}
use Rattle.line_io.specs.Lines.{AreLines, IsContent, content, ended_from, last_from, last_line, lines}
use Rattle.line_io.proofs.LineLemmas.{ended_from-append, ended_from_unbroken, last_from-append, last_from_unbroken}

abbrev pub Unbroken : List ℕ → Type 0
Unbroken xs = All (λ b. b ≢ 10) xs

abbrev with_break : List ℕ → List ℕ
with_break line = line ++ 10 ∷ []

joined_from : (part xs : List ℕ)
    → flat_map with_break (ended_from part xs) ++ last_from part xs ≡ part ++ xs
joined_from part [] = sym (append-nil part)
joined_from part (b ∷ xs) =
    elim (eqb_tells b 10) [
      | inl w ↦
          rw (w.0, w.1) (append_assoc (part ++ 10 ∷ []) _ _
          ∙ ap (λ t. (part ++ 10 ∷ []) ++ t) (joined_from [] xs) ∙ append_assoc part (10 ∷ []) xs)
      | inr w ↦ rw w.0 (joined_from (part ++ b ∷ []) xs ∙ append_assoc part (b ∷ []) xs)
    ]

unbroken_push : (part : List ℕ) (b : ℕ) → Unbroken part → b ≢ 10 → Unbroken (part ++ b ∷ [])
unbroken_push part b h n =
    All-append (λ c. c ≢ 10) part (b ∷ []) h (All-cons (λ c. c ≢ 10) b [] n (All-nil (λ c. c ≢ 10)))

ended_unbroken : (part xs : List ℕ) → Unbroken part → All Unbroken (ended_from part xs)
ended_unbroken part [] h = All-nil Unbroken
ended_unbroken part (b ∷ xs) h =
    elim (eqb_tells b 10) [
      | inl w ↦
          rw w.0 (All-cons Unbroken part (ended_from [] xs) h
          (ended_unbroken [] xs (All-nil (λ c. c ≢ 10))))
      | inr w ↦ rw w.0 (ended_unbroken (part ++ b ∷ []) xs (unbroken_push part b h w.1))
    ]

last_unbroken : (part xs : List ℕ) → Unbroken part → Unbroken (last_from part xs)
last_unbroken part [] h = h
last_unbroken part (b ∷ xs) h =
    elim (eqb_tells b 10) [
      | inl w ↦ rw w.0 (last_unbroken [] xs (All-nil (λ c. c ≢ 10)))
      | inr w ↦ rw w.0 (last_unbroken (part ++ b ∷ []) xs (unbroken_push part b h w.1))
    ]

pub AreLines-lines : (input : List ℕ) → AreLines input (lines input)
AreLines-lines input = record {
  ended = ended_from [] input;
  last = last_from [] input;
  joined = joined_from [] input;
  unbroken = ended_unbroken [] input (All-nil (λ c. c ≢ 10));
  last_unbroken = last_unbroken [] input (All-nil (λ c. c ≢ 10));
  parts_are = refl;
}

-- no other parts are

one_line : (line : List ℕ) (ended : List (List ℕ)) (last : List ℕ)
    → flat_map with_break (line ∷ ended) ++ last ≡ line ++ 10 ∷ (flat_map with_break ended ++ last)
one_line line ended last =
    append_assoc (with_break line) (flat_map with_break ended) last ∙ append_assoc line (10 ∷ []) _

ended_of : (ended : List (List ℕ)) (last : List ℕ) → All Unbroken ended → Unbroken last
    → ended_from [] (flat_map with_break ended ++ last) ≡ ended
ended_of [] last h u = ended_from_unbroken [] last u
ended_of (line ∷ ended) last h u =
    let unbroken = All-head Unbroken line ended h in
    ap (ended_from []) (one_line line ended last)
    ∙ ended_from-append [] line (10 ∷ (flat_map with_break ended ++ last))
    ∙ rw (ended_from_unbroken [] line unbroken, last_from_unbroken [] line unbroken)
    (ap (λ ls. line ∷ ls) (ended_of ended last (All-tail Unbroken line ended h) u))

last_of : (ended : List (List ℕ)) (last : List ℕ) → All Unbroken ended → Unbroken last
    → last_from [] (flat_map with_break ended ++ last) ≡ last
last_of [] last h u = last_from_unbroken [] last u
last_of (line ∷ ended) last h u =
    ap (last_from []) (one_line line ended last)
    ∙ last_from-append [] line (10 ∷ (flat_map with_break ended ++ last))
    ∙ last_of ended last (All-tail Unbroken line ended h) u

pub lines_only : (input : List ℕ) (parts : List (List ℕ)) → AreLines input parts
    → parts ≡ lines input
lines_only input parts a =
    let at : lines input ≡ a.ended ++ last_line a.last =
    ap lines (sym a.joined)
    ∙ rw (
      ended_of a.ended a.last a.unbroken a.last_unbroken,
      last_of a.ended a.last a.unbroken a.last_unbroken,
    ) refl in
    a.parts_are ∙ sym at

-- the content of a line

last_byte : (line : List ℕ) → get_or line (length line - 1) 0 ≡ 13
    → line ≡ take (length line - 1) line ++ 13 ∷ []
last_byte [] h = absurd (omega (arith, h))
last_byte (b ∷ line) h =
    let n : length (b ∷ line) - 1 + 1 ≡ length (b ∷ line) = omega arith in
    sym (take_all (length (b ∷ line) - 1 + 1) (b ∷ line) (omega arith))
    ∙ take_more (b ∷ line) (length (b ∷ line) - 1) 0 (omega arith)
    ∙ ap (λ c. take (length (b ∷ line) - 1) (b ∷ line) ++ c ∷ []) h

no_last_byte : (line front : List ℕ) → get_or line (length line - 1) 0 ≢ 13
    → line ≢ front ++ 13 ∷ []
no_last_byte line front n e =
    let at : length front ≡ length line - 1 = omega (arith, ap length e, length_push front 13) in
    n (ap (λ l. get_or l (length line - 1) 0) e ∙ get_or_push front 13 0 (length line - 1) at)

pub IsContent-content : (line : List ℕ) → IsContent line (content line)
IsContent-content line =
    elim (eqb_tells (get_or line (length line - 1) 0) 13) [
      | inl w ↦ rw w.0 (inl (last_byte line w.1))
      | inr w ↦ rw w.0 (inr (refl, λ front. no_last_byte line front w.1))
    ]
