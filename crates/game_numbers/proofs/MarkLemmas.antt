-- Marks are those of the defined lists, each by computation at each number.
use Rattle.std.proofs.Common.{◌≡◌, ℕ, ◌<◌, ◌≤◌, ℤ, pos, negsuc, Bool, true, false, inl, inr, List, [], ◌∷◌, length, get_or, map, refl, sym, ap, ◌∙◌, arith, zero-add}
use Rattle.std.specs.Prelude.{◌&&◌, ◌==◌, nat_lt}
use Rattle.std.specs.List.{range_with_len}
use Rattle.std.proofs.lemmas.Bool.{and_parts, cases_lt}
use Rattle.std.proofs.lemmas.Bool.Decides.{nat_tests}
use Rattle.std.proofs.lemmas.List.{get_or_past}
use Rattle.std.proofs.lemmas.List.FromFn.{get_or-map-range_with_len}
use Rattle.game_numbers.specs.Number.{has, is_marked, is_one_of}
use Rattle.game_numbers.specs.Specials.{blue_lock, ceiling, change, crossed, door, exit, game, missile, monster, nearest, perpetual, platform, red_lock, scrolling, shot, tagged, teleport, used, yellow_lock}
use Rattle.game_numbers.specs.SectorSpecials.{exit_floor, flashing, glowing, survived, timed_door}
use Rattle.game_numbers.specs.Kinds.{blue_key, red_key, second_game, yellow_key}
use Rattle.game_numbers.specs.declared.special.TheConstants.{CEILING, CHANGE, CROSSED, DOOR, EXIT, GAME, MISSILE, MONSTER, NEAREST, PERPETUAL, PLATFORM, SCROLLING, SHOT, TAGGED, TELEPORT, USED}
use Rattle.game_numbers.specs.declared.sector_special.TheConstants.{EXIT_FLOOR, FLASHING, GLOWING, SURVIVED, TIMED_DOOR}
use Rattle.game_numbers.specs.declared.key.TheConstants.{BLUE_KEY, BLUE_LOCK, RED_KEY, RED_LOCK, YELLOW_KEY, YELLOW_LOCK}
use Rattle.game_numbers.specs.declared.kind.TheConstants.{SECOND_GAME}

-- all numbers of a list are below one
abbrev pub all_below : ℕ → List ℕ → Bool
all_below bound [] = true
all_below bound (m ∷ ms) = nat_lt m bound && all_below bound ms

-- a number past all is none of them
pub has-past : (bound : ℕ) (numbers : List ℕ) (n : ℕ) → all_below bound numbers ≡ true → bound ≤ n → has numbers n ≡ false
has-past bound [] n all past = refl
has-past bound (m ∷ ms) n all past =
    let parts = and_parts (nat_lt m bound) (all_below bound ms) all in
    let below : nat_lt m bound ≡ true = parts.0 in
    let other : (n == m) ≡ false = grind (arith, nat_tests) in
    rw (other, has-past bound ms n parts.1 past) refl

-- two tests that agree below a number
pub agree_at : (f g : ℕ → Bool) (bound n : ℕ) → map f (range_with_len 0 bound) ≡ map g (range_with_len 0 bound) → n < bound → f n ≡ g n
agree_at f g bound n same below =
    sym (get_or-map-range_with_len f 0 bound n n false below (zero-add n))
    ∙ ap (λ answers. get_or answers n false) same ∙ get_or-map-range_with_len g 0 bound n n false below (zero-add n)

marked_at : (marks numbers : List ℕ) (bound n : ℕ) → length marks ≡ bound → all_below bound numbers ≡ true
    → map (λ k. get_or marks k 46 == 120) (range_with_len 0 bound) ≡ map (has numbers) (range_with_len 0 bound)
    → (get_or marks n 46 == 120) ≡ has numbers n
marked_at marks numbers bound n long all same = elim (cases_lt n bound) [
  | inl below ↦ agree_at (λ k. get_or marks k 46 == 120) (has numbers) bound n same below
  | inr past ↦ rw (get_or_past marks n 46 (rw long past), has-past bound numbers n all past) refl
]

marks_are : (marks numbers : List ℕ) (bound : ℕ) → length marks ≡ bound → all_below bound numbers ≡ true
    → map (λ k. get_or marks k 46 == 120) (range_with_len 0 bound) ≡ map (has numbers) (range_with_len 0 bound)
    → (number : ℤ) → is_marked marks number ≡ is_one_of numbers number
marks_are marks numbers bound long all same (pos n) = marked_at marks numbers bound n long all same
marks_are marks numbers bound long all same (negsuc n) = refl

pub game_marks : (number : ℤ) → is_marked GAME.now number ≡ is_one_of game number
unfolding game
game_marks = marks_are GAME.now game 142 refl refl refl

pub crossed_marks : (number : ℤ) → is_marked CROSSED.now number ≡ is_one_of crossed number
unfolding crossed
crossed_marks = marks_are CROSSED.now crossed 142 refl refl refl

pub used_marks : (number : ℤ) → is_marked USED.now number ≡ is_one_of used number
unfolding used
used_marks = marks_are USED.now used 141 refl refl refl

pub shot_marks : (number : ℤ) → is_marked SHOT.now number ≡ is_one_of shot number
unfolding shot
shot_marks = marks_are SHOT.now shot 48 refl refl refl

pub scrolling_marks : (number : ℤ) → is_marked SCROLLING.now number ≡ is_one_of scrolling number
unfolding scrolling
scrolling_marks = marks_are SCROLLING.now scrolling 49 refl refl refl

pub door_marks : (number : ℤ) → is_marked DOOR.now number ≡ is_one_of door number
unfolding door
door_marks = marks_are DOOR.now door 119 refl refl refl

pub exit_marks : (number : ℤ) → is_marked EXIT.now number ≡ is_one_of exit number
unfolding exit
exit_marks = marks_are EXIT.now exit 125 refl refl refl

pub teleport_marks : (number : ℤ) → is_marked TELEPORT.now number ≡ is_one_of teleport number
unfolding teleport
teleport_marks = marks_are TELEPORT.now teleport 127 refl refl refl

pub tagged_marks : (number : ℤ) → is_marked TAGGED.now number ≡ is_one_of tagged number
unfolding tagged
tagged_marks = marks_are TAGGED.now tagged 142 refl refl refl

pub platform_marks : (number : ℤ) → is_marked PLATFORM.now number ≡ is_one_of platform number
unfolding platform
platform_marks = marks_are PLATFORM.now platform 124 refl refl refl

pub ceiling_marks : (number : ℤ) → is_marked CEILING.now number ≡ is_one_of ceiling number
unfolding ceiling
ceiling_marks = marks_are CEILING.now ceiling 142 refl refl refl

pub nearest_marks : (number : ℤ) → is_marked NEAREST.now number ≡ is_one_of nearest number
unfolding nearest
nearest_marks = marks_are NEAREST.now nearest 133 refl refl refl

pub change_marks : (number : ℤ) → is_marked CHANGE.now number ≡ is_one_of change number
unfolding change
change_marks = marks_are CHANGE.now change 85 refl refl refl

pub survived_marks : (number : ℤ) → is_marked SURVIVED.now number ≡ is_one_of survived number
unfolding survived
survived_marks = marks_are SURVIVED.now survived 18 refl refl refl

pub timed_door_marks : (number : ℤ) → is_marked TIMED_DOOR.now number ≡ is_one_of timed_door number
unfolding timed_door
timed_door_marks = marks_are TIMED_DOOR.now timed_door 15 refl refl refl

pub flashing_marks : (number : ℤ) → is_marked FLASHING.now number ≡ is_one_of flashing number
unfolding flashing
flashing_marks = marks_are FLASHING.now flashing 14 refl refl refl

pub glowing_marks : (number : ℤ) → is_marked GLOWING.now number ≡ is_one_of glowing number
unfolding glowing
glowing_marks = marks_are GLOWING.now glowing 9 refl refl refl

pub exit_floor_marks : (number : ℤ) → is_marked EXIT_FLOOR.now number ≡ is_one_of exit_floor number
unfolding exit_floor
exit_floor_marks = marks_are EXIT_FLOOR.now exit_floor 12 refl refl refl

pub blue_lock_marks : (number : ℤ) → is_marked BLUE_LOCK.now number ≡ is_one_of blue_lock number
unfolding blue_lock
blue_lock_marks = marks_are BLUE_LOCK.now blue_lock 134 refl refl refl

pub yellow_lock_marks : (number : ℤ) → is_marked YELLOW_LOCK.now number ≡ is_one_of yellow_lock number
unfolding yellow_lock
yellow_lock_marks = marks_are YELLOW_LOCK.now yellow_lock 138 refl refl refl

pub red_lock_marks : (number : ℤ) → is_marked RED_LOCK.now number ≡ is_one_of red_lock number
unfolding red_lock
red_lock_marks = marks_are RED_LOCK.now red_lock 136 refl refl refl

pub blue_key_marks : (number : ℤ) → is_marked BLUE_KEY.now number ≡ is_one_of blue_key number
unfolding blue_key
blue_key_marks = marks_are BLUE_KEY.now blue_key 41 refl refl refl

pub yellow_key_marks : (number : ℤ) → is_marked YELLOW_KEY.now number ≡ is_one_of yellow_key number
unfolding yellow_key
yellow_key_marks = marks_are YELLOW_KEY.now yellow_key 40 refl refl refl

pub red_key_marks : (number : ℤ) → is_marked RED_KEY.now number ≡ is_one_of red_key number
unfolding red_key
red_key_marks = marks_are RED_KEY.now red_key 39 refl refl refl

pub second_game_marks : (number : ℤ) → is_marked SECOND_GAME.now number ≡ is_one_of second_game number
unfolding second_game
second_game_marks = marks_are SECOND_GAME.now second_game 90 refl refl refl

pub missile_marks : (number : ℤ) → is_marked MISSILE.now number ≡ is_one_of missile number
unfolding missile
missile_marks = marks_are MISSILE.now missile 89 refl refl refl

pub monster_marks : (number : ℤ) → is_marked MONSTER.now number ≡ is_one_of monster number
unfolding monster
monster_marks = marks_are MONSTER.now monster 127 refl refl refl

pub perpetual_marks : (number : ℤ) → is_marked PERPETUAL.now number ≡ is_one_of perpetual number
unfolding perpetual
perpetual_marks = marks_are PERPETUAL.now perpetual 88 refl refl refl
