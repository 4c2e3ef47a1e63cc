-- The lumps of a level whose entries needn't all be there, nor in their usual order (ours).
use Rattle.std.specs.Prelude.{◌≡◌, ℕ, ◌+◌, ◌-◌, ◌<◌, ◌≤◌, ◌⊎◌, List, codes}
use Rattle.std.specs.List.{slice_get}
use Rattle.level_starts.specs.Starts.{IsNamed}
use Rattle.map_level.specs.LinkFaults.{usual_names}

-- an entry is there, and has one of the ten usual names (ML_THINGS to ML_BLOCKMAP of doomdata.h)
pub record IsUsual (names : List (List ℕ)) (g : ℕ) : Type 0 where
  pub place : ℕ
  pub from : 1 ≤ place
  pub to : place ≤ 10
  pub named : slice_get names g ≡ slice_get usual_names (place - 1)

-- the name of Hexen's scripts, by which its levels are told (unofficial Hexen specs)
abbrev pub behavior : List ℕ
behavior = codes "BEHAVIOR"

-- an entry is there, and named as a lump of a level
abbrev pub IsOwn : List (List ℕ) → ℕ → Type 0
IsOwn names g = IsUsual names g ⊎ IsNamed names g behavior

-- a level has its lump of a name at this place behind its label: the first of that name, behind lumps of the level alone. There are
-- eleven places, as many as there are names
pub record IsOwnPlace (names : List (List ℕ)) (g : ℕ) (name : List ℕ) (k : ℕ) : Type 0 where
  pub from : 1 ≤ k
  pub to : k ≤ 11
  pub own : (j : ℕ) → 1 ≤ j → j < k → IsOwn names (g + j)
  pub first : (j : ℕ) → 1 ≤ j → j < k → ¬ IsNamed names (g + j) name
  pub named : IsNamed names (g + k) name

-- it has none
abbrev pub HasNone : List (List ℕ) → ℕ → List ℕ → Type 0
HasNone names g name = (k : ℕ) → ¬ IsOwnPlace names g name k
