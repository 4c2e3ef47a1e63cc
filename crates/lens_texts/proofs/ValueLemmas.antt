-- A text whose lexemes are those of a value is read as that value.
use Rattle.std.proofs.Common.{◌≡◌, ℕ, ◌≤◌, Bool, true, false, List, [], ◌∷◌, ◌++◌, Some, option_and_then, refl, sym, ap, ◌∙◌, append_assoc}
use Rattle.json.proofs.Printed.Trees.{value-json_tokens}
use Rattle.json.specs.Json.{Json, null, boolean, number, string, array, object, Items, no_items, item, Members, no_members, member, document, if_last, max_depth, value}
use Rattle.json.specs.Lex.{Lexeme, Place, token, comma, colon, fresh, after_value, begins_colon, between, if_allowed, lex, may_begin, place_token, punctuate}
use Rattle.json.specs.Token.{Token}
use Rattle.json.specs.Tree.{depth, items_tokens, json_tokens, members_tokens}

-- the lexemes of a value, before others
abbrev mutual
  pub value_then : Json → List Lexeme → List Lexeme
  value_then null l = token Token.null ∷ l
  value_then (boolean b) l = token (Token.boolean b) ∷ l
  value_then (number s) l = token (Token.number s) ∷ l
  value_then (string s) l = token (Token.string s) ∷ l
  value_then (array js) l = token Token.begin_array ∷ items_then js l
  value_then (object ms) l = token Token.begin_object ∷ members_then ms l

  -- the first items and members, with the closing bracket
  pub items_then : Items → List Lexeme → List Lexeme
  items_then no_items l = token Token.end_array ∷ l
  items_then (item j js) l = value_then j (more_items js l)

  pub members_then : Members → List Lexeme → List Lexeme
  members_then no_members l = token Token.end_object ∷ l
  members_then (member k j ms) l = token (Token.string k) ∷ colon ∷ value_then j (more_members ms l)

  -- those behind others
  pub more_items : Items → List Lexeme → List Lexeme
  more_items no_items l = token Token.end_array ∷ l
  more_items (item j js) l = comma ∷ value_then j (more_items js l)

  pub more_members : Members → List Lexeme → List Lexeme
  more_members no_members l = token Token.end_object ∷ l
  more_members (member k j ms) l = comma ∷ token (Token.string k) ∷ colon ∷ value_then j (more_members ms l)

no_colon_in_items : (js : Items) (l : List Lexeme) → begins_colon (more_items js l) ≡ false
no_colon_in_items no_items l = refl
no_colon_in_items (item j js) l = refl

no_colon_in_members : (ms : Members) (l : List Lexeme) → begins_colon (more_members ms l) ≡ false
no_colon_in_members no_members l = refl
no_colon_in_members (member k j ms) l = refl

allowed : (b : Bool) (t : Token) (k : Place → List Token) (next : Place) → b ≡ true → if_allowed b t k next ≡ t ∷ k next
allowed b t k next may = ap (λ x. if_allowed x t k next) may

mutual
  unfolding punctuate

  punctuate-value : (j : Json) (p : Place) (l : List Lexeme) → may_begin p ≡ true → begins_colon l ≡ false
      → punctuate p (value_then j l) ≡ json_tokens j ++ punctuate after_value l
  punctuate-value null p l may plain = allowed (may_begin p) Token.null (λ n. punctuate n l) after_value may
  punctuate-value (boolean b) p l may plain = allowed (may_begin p) (Token.boolean b) (λ n. punctuate n l) after_value may
  punctuate-value (number s) p l may plain = allowed (may_begin p) (Token.number s) (λ n. punctuate n l) after_value may
  punctuate-value (string s) p l may plain =
      ap (λ b. place_token p (Token.string s) b (λ n. punctuate n l)) plain ∙ allowed (may_begin p) (Token.string s) (λ n. punctuate n l) after_value may
  punctuate-value (array js) p l may plain =
      allowed (may_begin p) Token.begin_array (λ n. punctuate n (items_then js l)) fresh may ∙ ap (λ ts. Token.begin_array ∷ ts) (punctuate-items js l)
  punctuate-value (object ms) p l may plain =
      allowed (may_begin p) Token.begin_object (λ n. punctuate n (members_then ms l)) fresh may ∙ ap (λ ts. Token.begin_object ∷ ts) (punctuate-members ms l)

  punctuate-items : (js : Items) (l : List Lexeme) → punctuate fresh (items_then js l) ≡ items_tokens js ++ punctuate after_value l
  punctuate-items no_items l = refl
  punctuate-items (item j js) l =
      punctuate-value j fresh (more_items js l) refl (no_colon_in_items js l) ∙ ap (λ ts. json_tokens j ++ ts) (punctuate-more_items js l)
      ∙ sym (append_assoc (json_tokens j) (items_tokens js) _)

  punctuate-more_items : (js : Items) (l : List Lexeme) → punctuate after_value (more_items js l) ≡ items_tokens js ++ punctuate after_value l
  punctuate-more_items no_items l = refl
  punctuate-more_items (item j js) l =
      punctuate-value j Place.after_comma (more_items js l) refl (no_colon_in_items js l) ∙ ap (λ ts. json_tokens j ++ ts) (punctuate-more_items js l)
      ∙ sym (append_assoc (json_tokens j) (items_tokens js) _)

  punctuate-members : (ms : Members) (l : List Lexeme) → punctuate fresh (members_then ms l) ≡ members_tokens ms ++ punctuate after_value l
  punctuate-members no_members l = refl
  punctuate-members (member k j ms) l =
      ap (λ ts. Token.key k ∷ ts)
      (punctuate-value j fresh (more_members ms l) refl (no_colon_in_members ms l) ∙ ap (λ ts. json_tokens j ++ ts) (punctuate-more_members ms l)
      ∙ sym (append_assoc (json_tokens j) (members_tokens ms) _))

  punctuate-more_members : (ms : Members) (l : List Lexeme) → punctuate after_value (more_members ms l) ≡ members_tokens ms ++ punctuate after_value l
  punctuate-more_members no_members l = refl
  punctuate-more_members (member k j ms) l =
      ap (λ ts. Token.key k ∷ ts)
      (punctuate-value j fresh (more_members ms l) refl (no_colon_in_members ms l) ∙ ap (λ ts. json_tokens j ++ ts) (punctuate-more_members ms l)
      ∙ sym (append_assoc (json_tokens j) (members_tokens ms) _))

pub read_document : (text : List ℕ) (j : Json) → lex between text ≡ value_then j [] → depth j ≤ max_depth → document text ≡ Some j
unfolding punctuate
read_document text j lexed shallow =
    ap (option_and_then (λ p. if_last p.0 p.1))
    (ap (value max_depth) (ap (punctuate fresh) lexed ∙ punctuate-value j fresh [] refl refl) ∙ value-json_tokens j max_depth [] shallow)
