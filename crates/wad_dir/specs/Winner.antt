-- The entry that a looked-up name wins (W_CheckNumForName of w_wad.c).
use Rattle.std.specs.Prelude.{◌≡◌, ◌≢◌, ℕ, ◌<◌, List, Some}
use Rattle.std.specs.List.{slice_get}

-- the entry has the name, and none of a greater number has it
pub record Wins (all : List (List ℕ)) (name : List ℕ) (g : ℕ) : Type 0 where
  pub named : slice_get all g ≡ Some name
  pub last : (h : ℕ) → g < h → slice_get all h ≢ Some name
