-- A string of JSON is read back by the kit's reader: its content is the text, and the reader goes on behind it.
use Rattle.std.proofs.Common.{◌≡◌, ℕ, zero, suc, ◌<◌, ◌≤◌, ◌⊎◌, inl, inr, Bool, true, false, List, [], ◌∷◌, ◌++◌, Some, cond, refl, sym, ap, ◌∙◌, subst, arith, append_assoc}
use Rattle.std.specs.Prelude.{not, ◌&&◌, ◌==◌}
use Rattle.std.proofs.lemmas.Bool.{and_from, and_parts, cases_eq, cases_lt, ne_eqb, le-ltb}
use Rattle.std.specs.Str.Lossy.{utf8_lossy}
use lib.Utf8.{encode}
use Rattle.json.specs.Lex.{Lexeme, Mode, between, in_string, lex, lex_byte, operator, other, space, string_token, token}
use Rattle.json.specs.Text.{code_unit, content, plain, prepend, short_escape}
use Rattle.json.specs.Token.{string}
use Rattle.json.specs.Word.{is_operator, is_space}
use Rattle.lens_texts.specs.JsonString.{escaped, escaped_byte}
use Rattle.lens_texts.specs.Laws.{StringsAreRead}

-- no line breaks within a text
abbrev pub is_line : List ℕ → Bool
is_line [] = true
is_line (x ∷ xs) = not (x == 10) && is_line xs

-- what the reader makes of a byte as it is written, before any text, and that it breaks no line
record Passes (x : ℕ) : Type 0 where
  read : (r : List ℕ) → content plain (escaped_byte x ++ r) ≡ prepend (x ∷ []) (content plain r)
  lexed : (r : List ℕ) → lex in_string (escaped_byte x ++ r) ≡ lex in_string r
  unbroken : is_line (escaped_byte x) ≡ true

-- something holds of each number below one
abbrev Each : (ℕ → Type 0) → ℕ → Type 0
Each P zero = Unit {0}
Each P (suc n) = P n × Each P n

each_below : (P : ℕ → Type 0) (n : ℕ) → Each P n → (x : ℕ) → x < n → P x
each_below P zero each x below = absurd (omega arith)
each_below P (suc n) each x below = elim (cases_eq x n) [
  | inl same ↦ subst P (sym same) each.0
  | inr differs ↦ each_below P n each.1 x (omega (arith, below, differs))
]

controls : Each Passes 32
unfolding content lex code_unit short_escape encode
controls = (record { read = λ r. refl; lexed = λ r. refl; unbroken = refl }, (record { read = λ r. refl; lexed = λ r. refl; unbroken = refl }, (record { read = λ r. refl; lexed = λ r. refl; unbroken = refl }, (record { read = λ r. refl; lexed = λ r. refl; unbroken = refl }, (record { read = λ r. refl; lexed = λ r. refl; unbroken = refl }, (record { read = λ r. refl; lexed = λ r. refl; unbroken = refl }, (record { read = λ r. refl; lexed = λ r. refl; unbroken = refl }, (record { read = λ r. refl; lexed = λ r. refl; unbroken = refl }, (record { read = λ r. refl; lexed = λ r. refl; unbroken = refl }, (record { read = λ r. refl; lexed = λ r. refl; unbroken = refl }, (record { read = λ r. refl; lexed = λ r. refl; unbroken = refl }, (record { read = λ r. refl; lexed = λ r. refl; unbroken = refl }, (record { read = λ r. refl; lexed = λ r. refl; unbroken = refl }, (record { read = λ r. refl; lexed = λ r. refl; unbroken = refl }, (record { read = λ r. refl; lexed = λ r. refl; unbroken = refl }, (record { read = λ r. refl; lexed = λ r. refl; unbroken = refl }, (record { read = λ r. refl; lexed = λ r. refl; unbroken = refl }, (record { read = λ r. refl; lexed = λ r. refl; unbroken = refl }, (record { read = λ r. refl; lexed = λ r. refl; unbroken = refl }, (record { read = λ r. refl; lexed = λ r. refl; unbroken = refl }, (record { read = λ r. refl; lexed = λ r. refl; unbroken = refl }, (record { read = λ r. refl; lexed = λ r. refl; unbroken = refl }, (record { read = λ r. refl; lexed = λ r. refl; unbroken = refl }, (record { read = λ r. refl; lexed = λ r. refl; unbroken = refl }, (record { read = λ r. refl; lexed = λ r. refl; unbroken = refl }, (record { read = λ r. refl; lexed = λ r. refl; unbroken = refl }, (record { read = λ r. refl; lexed = λ r. refl; unbroken = refl }, (record { read = λ r. refl; lexed = λ r. refl; unbroken = refl }, (record { read = λ r. refl; lexed = λ r. refl; unbroken = refl }, (record { read = λ r. refl; lexed = λ r. refl; unbroken = refl }, (record { read = λ r. refl; lexed = λ r. refl; unbroken = refl }, (record { read = λ r. refl; lexed = λ r. refl; unbroken = refl }, tt))))))))))))))))))))))))))))))))

quote_passes : Passes 34
unfolding content lex short_escape
quote_passes = record { read = λ r. refl; lexed = λ r. refl; unbroken = refl }

backslash_passes : Passes 92
unfolding content lex short_escape
backslash_passes = record { read = λ r. refl; lexed = λ r. refl; unbroken = refl }

plain_byte : (x : ℕ) → (x ≡ 34 → ⊥) → (x ≡ 92 → ⊥) → 32 ≤ x → escaped_byte x ≡ x ∷ []
plain_byte x quote backslash high = rw (ne_eqb x 34 quote, ne_eqb x 92 backslash, le-ltb x 32 high)

stays_inside : (o s : Bool) (x : ℕ) (r : List ℕ) (k : Mode → List Lexeme) → lex_byte in_string (cond o operator (cond s space other)) x r k ≡ k in_string
stays_inside true s x r k = refl
stays_inside false true x r k = refl
stays_inside false false x r k = refl

plain_passes : (x : ℕ) → (x ≡ 34 → ⊥) → (x ≡ 92 → ⊥) → 32 ≤ x → Passes x
unfolding content lex
plain_passes x quote backslash high =
    let same = plain_byte x quote backslash high in
    record {
      read = λ r. rw (same, ne_eqb x 34 quote, ne_eqb x 92 backslash, le-ltb x 32 high);
      lexed = λ r. rw (same, ne_eqb x 34 quote, ne_eqb x 92 backslash) (stays_inside (is_operator x) (is_space x) x r (λ m. lex m r));
      unbroken = rw (same, ne_eqb x 10 (λ e. omega arith)) refl;
    }

passes : (x : ℕ) → Passes x
passes x = go (cases_eq x 34) (cases_eq x 92) (cases_lt x 32)
  where
    go : (x ≡ 34) ⊎ (x ≡ 34 → ⊥) → (x ≡ 92) ⊎ (x ≡ 92 → ⊥) → (x < 32) ⊎ (32 ≤ x) → Passes x
    go (inl same) b c = subst Passes (sym same) quote_passes
    go (inr quote) (inl same) c = subst Passes (sym same) backslash_passes
    go (inr quote) (inr backslash) (inl low) = each_below Passes 32 controls x low
    go (inr quote) (inr backslash) (inr high) = plain_passes x quote backslash high

content-escaped : (text rest : List ℕ) → content plain (escaped text ++ 34 ∷ rest) ≡ Some text
unfolding content
content-escaped [] rest = refl
content-escaped (x ∷ text) rest =
    ap (content plain) (append_assoc (escaped_byte x) (escaped text) (34 ∷ rest)) ∙ (passes x).read _ ∙ ap (prepend (x ∷ [])) (content-escaped text rest)

lex-escaped : (text rest : List ℕ) → lex in_string (escaped text ++ 34 ∷ rest) ≡ lex between rest
unfolding lex
lex-escaped [] rest = refl
lex-escaped (x ∷ text) rest =
    ap (lex in_string) (append_assoc (escaped_byte x) (escaped text) (34 ∷ rest)) ∙ (passes x).lexed _ ∙ lex-escaped text rest

pub is_line-append : (xs ys : List ℕ) → is_line xs ≡ true → is_line ys ≡ true → is_line (xs ++ ys) ≡ true
is_line-append [] ys first next = next
is_line-append (x ∷ xs) ys first next = let both = and_parts _ _ first in and_from _ _ both.0 (is_line-append xs ys both.1 next)

pub is_line-escaped : (text : List ℕ) → is_line (escaped text) ≡ true
is_line-escaped [] = refl
is_line-escaped (x ∷ text) = is_line-append (escaped_byte x) (escaped text) (passes x).unbroken (is_line-escaped text)

-- text within quotes, wherever it stands
pub lex-quoted : (text rest : List ℕ) → lex between (34 ∷ (escaped text ++ 34 ∷ rest)) ≡ token (string text) ∷ lex between rest
unfolding lex
lex-quoted text rest =
    ap (λ c. token (string_token c) ∷ lex in_string (escaped text ++ 34 ∷ rest)) (content-escaped text rest)
    ∙ ap (λ ls. token (string text) ∷ ls) (lex-escaped text rest)

pub law_strings_are_read : StringsAreRead
law_strings_are_read bytes rest =
    ap (λ t. lex between (34 ∷ t)) (append_assoc (escaped (utf8_lossy bytes)) (34 ∷ []) rest) ∙ lex-quoted (utf8_lossy bytes) rest
