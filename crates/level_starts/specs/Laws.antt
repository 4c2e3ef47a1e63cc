-- Laws of starts and formats (ours).
use Rattle.std.specs.Prelude.{◌≡◌, ℕ, List}
use Rattle.std.specs.Iterator.{Drains}
use Rattle.wad_dir.specs.Wad.{Wad}
use Rattle.map_level.specs.Opening.{RefusesLevelAt}
use Rattle.map_level.specs.declared.level.LevelFault.{LevelFault}
use Rattle.level_starts.specs.Starts.{AreStartsFrom, GivesNextStart, IsNextStart}
use Rattle.level_starts.specs.Format.{IsFormat}
use Rattle.level_starts.specs.declared.format.Format.{Format}
use Rattle.level_starts.specs.declared.format.Format.TheVariants.{Doom}

-- from a number on there is at most one first start
abbrev pub OneNextStart : Type 0
OneNextStart =
    (names : List (List ℕ)) (from g h : ℕ) → IsNextStart names from g → IsNextStart names from h → g ≡ h

-- what is given until none is left is all starts, ascending, and so each once
abbrev pub AllStartsGiven : Type 0
AllStartsGiven =
    (names : List (List ℕ)) (from : ℕ) (starts : List ℕ) →
    Drains GivesNextStart (record { names = names; from = from }) starts → AreStartsFrom names from starts

-- a label has at most one format
abbrev pub OneFormat : Type 0
OneFormat =
    (files : List Wad) (g : ℕ) (format other : Format) →
    IsFormat files g format → IsFormat files g other → format ≡ other

-- no fault refuses the level of a label whose format is Doom's
abbrev pub DoomIsNotRefused : Type 0
DoomIsNotRefused =
    (files : List Wad) (g : ℕ) (fault : LevelFault) → IsFormat files g Doom → ¬ RefusesLevelAt files g fault
