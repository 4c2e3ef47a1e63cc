-- Laws of the numbers (ours).
use Rattle.std.specs.Prelude.{◌≡◌, ◌||◌, ◌&&◌, ℤ, not, IsTrue, List, ℕ}
use Rattle.game_numbers.specs.Number.{is_one_of}
use Rattle.game_numbers.specs.Specials.{ceiling, change, crossed, door, exit, game, locks, missile, monster, nearest, perpetual, platform, scrolling, shot, tagged, teleport, used}
use Rattle.game_numbers.specs.declared.key.Key.{Key}

-- each number of a list is one of another
abbrev pub AreAmong : List ℕ → List ℕ → Type 0
AreAmong numbers all = (special : ℤ) → IsTrue (is_one_of numbers special) → IsTrue (is_one_of all special)

-- no number is one of two lists
abbrev pub AreApart : List ℕ → List ℕ → Type 0
AreApart numbers others = (special : ℤ) → IsTrue (is_one_of numbers special) → ¬ IsTrue (is_one_of others special)

-- each of the game's specials acts in one way: when its linedef is crossed, used or shot at, or by itself
pub record ActInOneWay : Type 0 where
  pub all : (special : ℤ) → is_one_of game special
      ≡ (is_one_of crossed special || is_one_of used special || is_one_of shot special || is_one_of scrolling special)
  pub crossed_used : AreApart crossed used
  pub crossed_shot : AreApart crossed shot
  pub crossed_scrolling : AreApart crossed scrolling
  pub used_shot : AreApart used shot
  pub used_scrolling : AreApart used scrolling
  pub shot_scrolling : AreApart shot scrolling

-- the game's specials act on the sectors of their tag but for doors, exits, teleporters and the scrolling
abbrev pub TheOthersAreTagged : Type 0
TheOthersAreTagged = (special : ℤ) → is_one_of tagged special
    ≡ (is_one_of game special && not (is_one_of door special || is_one_of exit special || is_one_of teleport special || is_one_of scrolling special))

-- doors that are opened by hand are used, and so is what wants a key; teleporters and changes are crossed; what moves floors and ceilings goes by the tag
pub record AreOfTheirKind : Type 0 where
  pub doors : AreAmong door used
  pub locked : (key : Key) → AreAmong (locks key) used
  pub teleporters : AreAmong teleport crossed
  pub changes : AreAmong change crossed
  pub missiles : AreAmong missile crossed
  pub monsters : AreAmong monster teleport
  pub platforms : AreAmong platform tagged
  pub perpetual_platforms : AreAmong perpetual platform
  pub ceilings : AreAmong ceiling tagged
  pub nearest : AreAmong nearest tagged
  pub tagged_changes : AreAmong change tagged
