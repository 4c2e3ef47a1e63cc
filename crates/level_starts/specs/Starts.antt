-- Where levels start, by names (Unofficial Doom Specs 1.666, chapter 4: THINGS follows a label; TEXTMAP of the UDMF specification).
use Rattle.std.specs.Prelude.{◌≡◌, ◌↔◌, ℕ, ◌+◌, ◌<◌, ◌≤◌, ◌⊎◌, List, Option, Some, None, AllPairs, Contains, codes}
use Rattle.std.specs.List.{slice_get}

-- an entry is there and has a name
abbrev pub IsNamed : List (List ℕ) → ℕ → List ℕ → Type 0
IsNamed names g name = slice_get names g ≡ Some name

-- a level starts at an entry: the next one is there, and named THINGS or TEXTMAP
abbrev pub LevelStartsAt : List (List ℕ) → ℕ → Type 0
LevelStartsAt names g =
    IsNamed names (g + 1) (codes "THINGS") ⊎ IsNamed names (g + 1) (codes "TEXTMAP")

-- the first entry from a number on at which one starts
pub record IsNextStart (names : List (List ℕ)) (from g : ℕ) : Type 0 where
  pub after : from ≤ g
  pub starts : LevelStartsAt names g
  pub first : (h : ℕ) → from ≤ h → h < g → ¬ LevelStartsAt names h

-- from a number on none starts
abbrev pub NoneStartsFrom : List (List ℕ) → ℕ → Type 0
NoneStartsFrom names from = (g : ℕ) → from ≤ g → ¬ LevelStartsAt names g

-- the starts that are left: those from an entry on
pub record StartsLeft : Type 0 where
  pub names : List (List ℕ)
  pub from : ℕ

-- the first start that is left is given, and those behind it are left then; or none is left, and none is given
abbrev pub GivesNextStart : StartsLeft → Option ℕ → StartsLeft → Type 0
GivesNextStart before (Some g) after =
    IsNextStart before.names before.from g × (after ≡ record { names = before.names; from = g + 1 })
GivesNextStart before None after = NoneStartsFrom before.names before.from × (after ≡ before)

-- all starts from a number on, ascending
pub record AreStartsFrom (names : List (List ℕ)) (from : ℕ) (starts : List ℕ) : Type 0 where
  pub ascending : AllPairs (λ a b. a < b) starts
  pub exact : (g : ℕ) → Contains starts g ↔ (LevelStartsAt names g × (from ≤ g))
