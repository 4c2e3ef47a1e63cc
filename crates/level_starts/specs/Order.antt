-- The ten lumps of a level in another order than the usual (ours; the game takes them by their places, P_SetupLevel of p_setup.c).
use Rattle.std.specs.Prelude.{◌≡◌, ℕ, ◌+◌, ◌-◌, ◌<◌, ◌≤◌, List}
use Rattle.std.specs.List.{slice_get}
use Rattle.map_level.specs.LinkFaults.{usual_names}

-- the entry of place k behind a label is there, and has the usual name of place j
abbrev pub HasNameOf : List (List ℕ) → ℕ → ℕ → ℕ → Type 0
HasNameOf names g k j = slice_get names (g + k) ≡ slice_get usual_names (j - 1)

-- the lump of place j is among the ten behind a label
pub record IsAmong (names : List (List ℕ)) (g j : ℕ) : Type 0 where
  pub place : ℕ
  pub from : 1 ≤ place
  pub to : place ≤ 10
  pub named : HasNameOf names g place j

-- so are those of the places from 1 on that are below one
abbrev pub AreAmong : List (List ℕ) → ℕ → ℕ → Type 0
AreAmong names g n = (j : ℕ) → 1 ≤ j → j < n → IsAmong names g j

-- all ten are there in some order, and place k has that of place j
pub record IsInPlace (names : List (List ℕ)) (g k j : ℕ) : Type 0 where
  pub all : AreAmong names g 11
  pub from : 1 ≤ j
  pub to : j ≤ 10
  pub named : HasNameOf names g k j
