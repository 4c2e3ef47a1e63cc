-- Members as they are written have the lexemes of their names and values.
use Rattle.std.proofs.Common.{◌≡◌, ℕ, zero, suc, ◌^◌, ◌<◌, ◌≤◌, Bool, true, false, true≢false, cond, List, [], ◌∷◌, ◌++◌, length, get_or, map, refl, sym, ap, ap₂, subst, ◌∙◌, append_assoc, arith, decimal}
use Rattle.std.specs.Prelude.{codes, not, ◌==◌, slice_index_or}
use Rattle.std.specs.List.{All, flat_map, join_with_byte}
use Rattle.std.specs.Str.Lossy.{utf8_lossy}
use Rattle.std.proofs.lemmas.Bool.{and_from, and_parts, ne_eqb}
use Rattle.std.proofs.lemmas.Fmt.{decimal_is_IsNumeral}
use Rattle.std.proofs.lemmas.Str.Parse.{digit_at}
use Rattle.json.proofs.Printed.Decimals.{IsNumber-decimal}
use Rattle.json.proofs.Printed.Numbers.{in_word-ended, lex-number}
use Rattle.json.specs.Json.{Items, Json, array, boolean, number, string}
use Rattle.json.specs.Lex.{Lexeme, token, comma, colon, between, lex}
use Rattle.json.specs.Text.{content}
use Rattle.json.specs.Token.{Token}
use Rattle.json.specs.Tree.{depth, items_depth, members_depth}
use Rattle.json.specs.Word.{ends_word, word}
use Rattle.lens_texts.proofs.ReadBackLemmas.{is_line, is_line-append, is_line-escaped, law_strings_are_read, lex-quoted}
use Rattle.lens_texts.proofs.ValueLemmas.{items_then, members_then, more_members, read_document, value_then}
use Rattle.lens_texts.specs.JsonString.{bool_text, escaped, json_string}
use Rattle.lens_texts.specs.Members.{IsLineOf, file_value, members_of, names_of, number_at, object_of, text_at}
use Rattle.lens_texts.specs.LevelObject.{file_member, number_member}

-- the lexemes of members behind others, before others
abbrev pub commas : List (List ℕ × Json) → List Lexeme → List Lexeme
commas [] l = l
commas (m ∷ ms) l = comma ∷ token (Token.string m.0) ∷ colon ∷ value_then m.1 (commas ms l)

commas-append : (ms ns : List (List ℕ × Json)) (l : List Lexeme) → commas (ms ++ ns) l ≡ commas ms (commas ns l)
commas-append [] ns l = refl
commas-append (m ∷ ms) ns l = ap (λ k. comma ∷ token (Token.string m.0) ∷ colon ∷ value_then m.1 k) (commas-append ms ns l)

pub commas-end : (ms : List (List ℕ × Json)) (l : List Lexeme) → commas ms (token Token.end_object ∷ l) ≡ more_members (members_of ms) l
commas-end [] l = refl
commas-end (m ∷ ms) l = ap (λ k. comma ∷ token (Token.string m.0) ∷ colon ∷ value_then m.1 k) (commas-end ms l)

depth-append : (ms ns : List (List ℕ × Json)) → members_depth (members_of ms) ≤ 1 → members_depth (members_of ns) ≤ 1 → members_depth (members_of (ms ++ ns)) ≤ 1
depth-append [] ns p q = q
depth-append (m ∷ ms) ns p q = let more = depth-append ms ns (omega (arith, p)) q in omega (arith, p, more)

-- a text is that of members behind others, wherever the text goes on as a word may end
pub record Tells (text : List ℕ) (ms : List (List ℕ × Json)) : Type 0 where
  pub reads : (rest : List ℕ) → ends_word rest ≡ true → lex between (text ++ rest) ≡ commas ms (lex between rest)
  pub ends : (rest : List ℕ) → ends_word rest ≡ true → ends_word (text ++ rest) ≡ true
  pub shallow : members_depth (members_of ms) ≤ 1
  pub unbroken : is_line text ≡ true

pub Tells-none : Tells [] []
Tells-none = record { reads = λ rest e. refl; ends = λ rest e. e; shallow = omega arith; unbroken = refl }

pub Tells-both : (a b : List ℕ) (ms ns : List (List ℕ × Json)) → Tells a ms → Tells b ns → Tells (a ++ b) (ms ++ ns)
Tells-both a b ms ns first next = record {
  reads = λ rest e. ap (lex between) (append_assoc a b rest) ∙ first.reads (b ++ rest) (next.ends rest e) ∙ ap (commas ms) (next.reads rest e) ∙ sym (commas-append ms ns _);
  ends = λ rest e. ap ends_word (append_assoc a b rest) ∙ first.ends (b ++ rest) (next.ends rest e);
  shallow = depth-append ms ns first.shallow next.shallow;
  unbroken = is_line-append a b first.unbroken next.unbroken;
}

-- ---- values

-- a text is that of a value
pub record IsValue (text : List ℕ) (j : Json) : Type 0 where
  pub reads : (rest : List ℕ) → ends_word rest ≡ true → lex between (text ++ rest) ≡ value_then j (lex between rest)
  pub shallow : depth j ≤ 1
  pub unbroken : is_line text ≡ true

high_line : (text : List ℕ) → ((i : ℕ) → i < length text → 48 ≤ get_or text i 0) → is_line text ≡ true
high_line [] high = refl
high_line (x ∷ text) high =
    let first = high 0 (omega arith) in
    and_from _ _ (ap not (ne_eqb x 10 (λ e. omega (arith, e, first)))) (high_line text (λ i within. high (suc i) (omega (arith, within))))

IsValue-number : (n : ℕ) → n < 2 ^ 64 → IsValue (decimal n) (number (decimal n))
IsValue-number n small = record {
  reads = λ rest e. lex-number (decimal n) rest (IsNumber-decimal n small) e;
  shallow = omega arith;
  unbroken = high_line (decimal n) (λ i within. (digit_at (decimal n) i (decimal_is_IsNumeral n small).0.1 within).0);
}

IsValue-string : (bytes : List ℕ) → IsValue (json_string bytes) (string (utf8_lossy bytes))
IsValue-string bytes = record {
  reads = λ rest e. law_strings_are_read bytes rest;
  shallow = omega arith;
  unbroken = is_line-append (escaped (utf8_lossy bytes)) (34 ∷ []) (is_line-escaped (utf8_lossy bytes)) refl;
}

-- bytes that stand within a string as they are
abbrev pub IsPlain : List ℕ → Type 0
IsPlain text = escaped text ≡ text

plain_line : (text : List ℕ) → IsPlain text → is_line text ≡ true
plain_line text plain = subst (λ t. is_line t ≡ true) plain (is_line-escaped text)

lex-plain : (text rest : List ℕ) → IsPlain text → lex between (34 ∷ (text ++ 34 ∷ rest)) ≡ token (Token.string text) ∷ lex between rest
lex-plain text rest plain = ap (λ t. lex between (34 ∷ (t ++ 34 ∷ rest))) (sym plain) ∙ lex-quoted text rest

IsValue-plain : (text : List ℕ) → IsPlain text → IsValue (34 ∷ (text ++ 34 ∷ [])) (string text)
IsValue-plain text plain = record {
  reads = λ rest e. ap (λ t. lex between (34 ∷ t)) (append_assoc text (34 ∷ []) rest) ∙ lex-plain text rest plain;
  shallow = omega arith;
  unbroken = is_line-append text (34 ∷ []) (plain_line text plain) refl;
}

IsValue-bool : (b : Bool) → IsValue (bool_text b) (boolean b)
unfolding lex word
IsValue-bool true = record {
  reads = λ rest e. ap₂ (λ x l. token (cond x (Token.boolean true) Token.bad) ∷ l) e (in_word-ended rest e);
  shallow = omega arith;
  unbroken = refl;
}
IsValue-bool false = record {
  reads = λ rest e. ap₂ (λ x l. token (cond x (Token.boolean false) Token.bad) ∷ l) e (in_word-ended rest e);
  shallow = omega arith;
  unbroken = refl;
}

-- ---- a member

-- a name with a value
abbrev named : List ℕ → List ℕ → List ℕ
named name text = 34 ∷ (name ++ (34 ∷ 58 ∷ text))

lex-named : (name text rest : List ℕ) (j : Json) → IsPlain name → IsValue text j → ends_word rest ≡ true
    → lex between (named name text ++ rest) ≡ token (Token.string name) ∷ colon ∷ value_then j (lex between rest)
unfolding lex
lex-named name text rest j plain is e =
    ap (λ t. lex between (34 ∷ t)) (append_assoc name (34 ∷ 58 ∷ text) rest) ∙ lex-plain name (58 ∷ (text ++ rest)) plain
    ∙ ap (λ l. token (Token.string name) ∷ colon ∷ l) (is.reads rest e)

named_line : (name text : List ℕ) (j : Json) → IsPlain name → IsValue text j → is_line (named name text) ≡ true
named_line name text j plain is = is_line-append name (34 ∷ 58 ∷ text) (plain_line name plain) is.unbroken

Tells-member : (name text : List ℕ) (j : Json) → IsPlain name → IsValue text j → Tells (44 ∷ named name text) ((name, j) ∷ [])
unfolding lex
Tells-member name text j plain is = record {
  reads = λ rest e. ap (λ l. comma ∷ l) (lex-named name text rest j plain is e);
  ends = λ rest e. refl;
  shallow = let shallow = is.shallow in omega (arith, shallow);
  unbroken = named_line name text j plain is;
}

pub Tells-number : (name : List ℕ) (n : ℕ) → IsPlain name → n < 2 ^ 64 → Tells (number_member name n) (number_at name n ∷ [])
Tells-number name n plain small = Tells-member name (decimal n) (number (decimal n)) plain (IsValue-number n small)

pub Tells-string : (name bytes : List ℕ) → IsPlain name → Tells (44 ∷ named name (json_string bytes)) (text_at name bytes ∷ [])
Tells-string name bytes plain = Tells-member name (json_string bytes) (string (utf8_lossy bytes)) plain (IsValue-string bytes)

pub Tells-plain : (name text : List ℕ) → IsPlain name → IsPlain text → Tells (44 ∷ named name (34 ∷ (text ++ 34 ∷ []))) ((name, string text) ∷ [])
Tells-plain name text plain as_is = Tells-member name (34 ∷ (text ++ 34 ∷ [])) (string text) plain (IsValue-plain text as_is)

pub Tells-bool : (name : List ℕ) (b : Bool) → IsPlain name → Tells (44 ∷ named name (bool_text b)) ((name, boolean b) ∷ [])
Tells-bool name b plain = Tells-member name (bool_text b) (boolean b) plain (IsValue-bool b)

-- numbers behind one another
abbrev pub ArePlain : List (List ℕ × ℕ) → Type 0
ArePlain [] = Unit {0}
ArePlain (one ∷ others) = IsPlain one.0 × ArePlain others

pub Tells-each : (all : List (List ℕ × ℕ)) → ArePlain all → All (λ one. one.1 < 2 ^ 64) all
    → Tells (flat_map (λ text. text) (map (λ one. number_member one.0 one.1) all)) (map (λ one. number_at one.0 one.1) all)
Tells-each [] plain small = Tells-none
Tells-each (one ∷ others) plain small =
    Tells-both (number_member one.0 one.1) _ (number_at one.0 one.1 ∷ []) _ (Tells-number one.0 one.1 plain.0 (small 0 one (omega arith)))
    (Tells-each others plain.1 (λ k d within. small (suc k) d (omega (arith, within))))

-- ---- an object of numbers

module _ {X : Type 0} (name : X → List ℕ) (count : X → ℕ) (are : (x : X) → IsPlain (name x)) where
  abbrev texts : List X → List (List ℕ)
  texts xs = map (λ x. named (name x) (decimal (count x))) xs

  abbrev numbers : List X → List (List ℕ × Json)
  numbers xs = map (λ x. number_at (name x) (count x)) xs

  lex-numbers : (xs : List X) (rest : List ℕ) → All (λ x. count x < 2 ^ 64) xs
      → lex between (join_with_byte 44 (texts xs) ++ 125 ∷ rest) ≡ members_then (members_of (numbers xs)) (lex between rest)
  unfolding lex
  lex-numbers [] rest small = refl
  lex-numbers (x ∷ []) rest small = lex-named (name x) (decimal (count x)) (125 ∷ rest) (number (decimal (count x))) (are x) (IsValue-number (count x) (small 0 x (omega arith))) refl
  lex-numbers (x ∷ y ∷ xs) rest small =
      let others = join_with_byte 44 (texts (y ∷ xs)) in
      ap (lex between) (append_assoc (named (name x) (decimal (count x))) (44 ∷ others) (125 ∷ rest))
      ∙ lex-named (name x) (decimal (count x)) (44 ∷ (others ++ 125 ∷ rest)) (number (decimal (count x))) (are x) (IsValue-number (count x) (small 0 x (omega arith))) refl
      ∙ ap (λ l. token (Token.string (name x)) ∷ colon ∷ token (Token.number (decimal (count x))) ∷ comma ∷ l)
      (lex-numbers (y ∷ xs) rest (λ k d within. small (suc k) d (omega (arith, within))))

  numbers_shallow : (xs : List X) → members_depth (members_of (numbers xs)) ≤ 0
  numbers_shallow [] = omega arith
  numbers_shallow (x ∷ xs) = let more = numbers_shallow xs in omega (arith, more)

  numbers_line : (xs : List X) → All (λ x. count x < 2 ^ 64) xs → is_line (join_with_byte 44 (texts xs)) ≡ true
  numbers_line [] small = refl
  numbers_line (x ∷ []) small = named_line (name x) (decimal (count x)) (number (decimal (count x))) (are x) (IsValue-number (count x) (small 0 x (omega arith)))
  numbers_line (x ∷ y ∷ xs) small =
      is_line-append (named (name x) (decimal (count x))) (44 ∷ join_with_byte 44 (texts (y ∷ xs)))
      (named_line (name x) (decimal (count x)) (number (decimal (count x))) (are x) (IsValue-number (count x) (small 0 x (omega arith))))
      (numbers_line (y ∷ xs) (λ k d within. small (suc k) d (omega (arith, within))))

  IsValue-numbers : (xs : List X) → All (λ x. count x < 2 ^ 64) xs → IsValue (123 ∷ (join_with_byte 44 (texts xs) ++ 125 ∷ [])) (object_of (numbers xs))
  unfolding lex
  IsValue-numbers xs small =
      let inside = join_with_byte 44 (texts xs) in
      record {
        reads = λ rest e. ap (λ t. token Token.begin_object ∷ lex between t) (append_assoc inside (125 ∷ []) rest)
            ∙ ap (λ l. token Token.begin_object ∷ l) (lex-numbers xs rest small);
        shallow = let flat = numbers_shallow xs in omega (arith, flat);
        unbroken = is_line-append inside (125 ∷ []) (numbers_line xs small) refl;
      }

  pub Tells-numbers : (group : List ℕ) (xs : List X) → IsPlain group → All (λ x. count x < 2 ^ 64) xs
      → Tells (44 ∷ named group (123 ∷ (join_with_byte 44 (texts xs) ++ 125 ∷ []))) ((group, object_of (numbers xs)) ∷ [])
  Tells-numbers group xs plain small = Tells-member group (123 ∷ (join_with_byte 44 (texts xs) ++ 125 ∷ [])) (object_of (numbers xs)) plain (IsValue-numbers xs small)

-- ---- an array of names

module _ {X : Type 0} (name : X → List ℕ) (are : (x : X) → IsPlain (name x)) where
  abbrev quoted : List X → List (List ℕ)
  quoted xs = map (λ x. 34 ∷ (name x ++ 34 ∷ [])) xs

  abbrev strings : List X → Items
  strings xs = names_of (map name xs)

  lex-name : (x : X) (rest : List ℕ) → lex between ((34 ∷ (name x ++ 34 ∷ [])) ++ rest) ≡ token (Token.string (name x)) ∷ lex between rest
  lex-name x rest = ap (λ t. lex between (34 ∷ t)) (append_assoc (name x) (34 ∷ []) rest) ∙ lex-plain (name x) rest (are x)

  name_line : (x : X) → is_line (34 ∷ (name x ++ 34 ∷ [])) ≡ true
  name_line x = is_line-append (name x) (34 ∷ []) (plain_line (name x) (are x)) refl

  lex-names : (xs : List X) (rest : List ℕ) → lex between (join_with_byte 44 (quoted xs) ++ 93 ∷ rest) ≡ items_then (strings xs) (lex between rest)
  unfolding lex
  lex-names [] rest = refl
  lex-names (x ∷ []) rest = lex-name x (93 ∷ rest)
  lex-names (x ∷ y ∷ xs) rest =
      let others = join_with_byte 44 (quoted (y ∷ xs)) in
      ap (lex between) (append_assoc (34 ∷ (name x ++ 34 ∷ [])) (44 ∷ others) (93 ∷ rest))
      ∙ lex-name x (44 ∷ (others ++ 93 ∷ rest))
      ∙ ap (λ l. token (Token.string (name x)) ∷ comma ∷ l) (lex-names (y ∷ xs) rest)

  strings_shallow : (xs : List X) → items_depth (strings xs) ≤ 0
  strings_shallow [] = omega arith
  strings_shallow (x ∷ xs) = let more = strings_shallow xs in omega (arith, more)

  names_line : (xs : List X) → is_line (join_with_byte 44 (quoted xs)) ≡ true
  names_line [] = refl
  names_line (x ∷ []) = name_line x
  names_line (x ∷ y ∷ xs) = is_line-append (34 ∷ (name x ++ 34 ∷ [])) (44 ∷ join_with_byte 44 (quoted (y ∷ xs))) (name_line x) (names_line (y ∷ xs))

  IsValue-names : (xs : List X) → IsValue (91 ∷ (join_with_byte 44 (quoted xs) ++ 93 ∷ [])) (array (strings xs))
  unfolding lex
  IsValue-names xs =
      let inside = join_with_byte 44 (quoted xs) in
      record {
        reads = λ rest e. ap (λ t. token Token.begin_array ∷ lex between t) (append_assoc inside (93 ∷ []) rest)
            ∙ ap (λ l. token Token.begin_array ∷ l) (lex-names xs rest);
        shallow = let flat = strings_shallow xs in omega (arith, flat);
        unbroken = is_line-append inside (93 ∷ []) (names_line xs) refl;
      }

  pub Tells-names : (group : List ℕ) (xs : List X) → IsPlain group
      → Tells (44 ∷ named group (91 ∷ (join_with_byte 44 (quoted xs) ++ 93 ∷ []))) ((group, array (strings xs)) ∷ [])
  Tells-names group xs plain = Tells-member group (91 ∷ (join_with_byte 44 (quoted xs) ++ 93 ∷ [])) (array (strings xs)) plain (IsValue-names xs)

-- ---- an object of a file with members behind that of its path

within_line : (text : List ℕ) (k : ℕ) → is_line text ≡ true → k < length text → slice_index_or text k 10 ≡ 10 → ⊥
within_line [] k whole within here = absurd (omega (arith, within))
within_line (x ∷ text) zero whole within here = true≢false (sym (and_parts _ _ whole).0 ∙ ap (λ y. not (y == 10)) here)
within_line (x ∷ text) (suc k) whole within here = within_line text k (and_parts _ _ whole).1 (omega (arith, within)) here

pub read_line : (path members : List ℕ) (ms : List (List ℕ × Json)) → Tells members ms
    → IsLineOf (object_of (file_value path ∷ ms)) (file_member path ++ (members ++ codes "}\n"))
unfolding lex content
read_line path members ms tells =
    let line = file_member path ++ (members ++ codes "}") in
    record {
      line = line;
      ended = sym (append_assoc (file_member path) (members ++ codes "}") (10 ∷ []) ∙ ap (λ t. file_member path ++ t) (append_assoc members (codes "}") (10 ∷ [])));
      unbroken = λ there. within_line line there.0
          (is_line-append (file_member path) (members ++ codes "}")
          (IsValue-string path).unbroken (is_line-append members (codes "}") tells.unbroken refl))
          there.1 there.2;
      read = read_document line (object_of (file_value path ∷ ms))
          (ap (λ l. token Token.begin_object ∷ token (Token.string (codes "file")) ∷ colon ∷ l)
          (law_strings_are_read path (members ++ codes "}")
          ∙ ap (λ l. token (Token.string (utf8_lossy path)) ∷ l) (tells.reads (codes "}") refl ∙ commas-end ms [])))
          (let shallow = tells.shallow in omega (arith, shallow));
    }
