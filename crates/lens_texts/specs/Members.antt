-- The members of an object and their values (ours), as a reader of JSON gives them.
use Rattle.std.specs.Prelude.{◌≡◌, ℕ, Contains, Some, List, [], ◌∷◌, ◌++◌, codes, decimal}
use Rattle.std.specs.Str.Lossy.{utf8_lossy}
use Rattle.json.specs.Json.{Items, Json, Members, document, item, member, no_items, no_members, number, object, string}

-- members with their names, in their order
abbrev pub members_of : List (List ℕ × Json) → Members
members_of [] = no_members
members_of (m ∷ ms) = member m.0 m.1 (members_of ms)

abbrev pub object_of : List (List ℕ × Json) → Json
object_of ms = object (members_of ms)

-- a member whose value is bytes' text
abbrev pub text_at : List ℕ → List ℕ → List ℕ × Json
text_at name bytes = (name, string (utf8_lossy bytes))

-- a member whose value is a number: its text are the digits
abbrev pub number_at : List ℕ → ℕ → List ℕ × Json
number_at name n = (name, number (decimal n))

-- names in an array, in their order
abbrev pub names_of : List (List ℕ) → Items
names_of [] = no_items
names_of (name ∷ names) = item (string name) (names_of names)

-- what each object begins with
abbrev pub file_value : List ℕ → List ℕ × Json
file_value path = text_at (codes "file") path

-- a text is a line that the kit's reader of JSON reads as a value, and it has no other line break
pub record IsLineOf (value : Json) (text : List ℕ) : Type 0 where
  pub line : List ℕ
  pub ended : text ≡ line ++ 10 ∷ []
  pub unbroken : ¬ Contains line 10
  pub read : document line ≡ Some value
