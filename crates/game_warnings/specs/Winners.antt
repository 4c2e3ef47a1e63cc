-- The last entry of each name, which looking the name up gives (W_CheckNumForName of w_wad.c).
use Rattle.std.specs.Prelude.{◌≡◌, ℕ, ◌<◌, List, Some, length}
use Rattle.std.specs.BTreeMap.{BTreeMap}
use Rattle.std.specs.List.{slice_get}
use Rattle.level_starts.specs.Holders.{AreHolders, HasName}

-- a map has the names of the first n entries, each with the last of these that has it
pub record AreWinnersBelow (all : List (List ℕ)) (n : ℕ) (winners : BTreeMap (List ℕ) ℕ) : Type 0 where
  pub last : AreHolders all n winners
  pub named : (g : ℕ) (name : List ℕ) → g < n → slice_get all g ≡ Some name → HasName winners name

-- those of all entries
abbrev pub AreWinners : List (List ℕ) → BTreeMap (List ℕ) ℕ → Type 0
AreWinners all winners = AreWinnersBelow all (length all) winners
