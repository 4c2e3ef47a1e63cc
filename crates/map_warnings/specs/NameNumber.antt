-- Names as numbers, by which they are put in order (ours).
use Rattle.std.specs.Prelude.{◌≡◌, ◌↔◌, ◌⊎◌, ℕ, List, Option, Some, None, Contains}
use Rattle.std.specs.Int.{from_be_bytes, to_be_bytes, w64}
use Rattle.le_rec.specs.Name.{name_of, padded}

-- the number of a name: that of its eight bytes, the first one the highest
abbrev pub name_number : List ℕ → ℕ
name_number name = from_be_bytes w64 (padded name)

-- a name and its number, by which it is known
pub record IsNumbered (name : List ℕ) (number : ℕ) : Type 0 where
  pub is : number ≡ name_number name
  pub bytes : to_be_bytes w64 number ≡ padded name
  pub own : name_of (padded name) ≡ name

-- a number is that of a name of a kind
abbrev pub IsNumberOf : (List ℕ → Type 0) → ℕ → Type 0
IsNumberOf is number = (name : List ℕ) × is name × IsNumbered name number

-- numbers are those of all names of a kind
abbrev pub AreNumbers : (List ℕ → Type 0) → List ℕ → Type 0
AreNumbers is numbers = (number : ℕ) → Contains numbers number ↔ IsNumberOf is number

-- the numbers of all names of a kind were added
abbrev pub AddsNames : (List ℕ → Type 0) → List ℕ → List ℕ → Type 0
AddsNames is before after = (number : ℕ) → Contains after number ↔ (Contains before number ⊎ IsNumberOf is number)

-- the names of a kind are known, by their numbers, exactly if they are to be
abbrev pub AreKnown : Type 0 → (List ℕ → Type 0) → Option (List ℕ) → Type 0
AreKnown wanted is (Some numbers) = wanted × AreNumbers is numbers
AreKnown wanted is None = ¬ wanted
