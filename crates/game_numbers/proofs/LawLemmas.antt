-- Laws of the numbers, each by computation at each number.
use Rattle.std.proofs.Common.{◌≡◌, ℕ, ℤ, pos, negsuc, Bool, true, false, inl, inr, List, map, refl}
use Rattle.std.specs.Prelude.{◌&&◌, ◌||◌, not, IsTrue}
use Rattle.std.specs.List.{range_with_len}
use Rattle.std.proofs.lemmas.Bool.{cases_lt}
use Rattle.game_numbers.specs.Laws.{ActInOneWay, AreAmong, AreApart, AreOfTheirKind, TheOthersAreTagged}
use Rattle.game_numbers.specs.Number.{has, is_one_of}
use Rattle.game_numbers.specs.Specials.{blue_lock, ceiling, change, crossed, door, exit, game, locks, missile, monster, nearest, perpetual, platform, red_lock, scrolling, shot, tagged, teleport, used, yellow_lock}
use Rattle.game_numbers.specs.declared.key.Key.{Key}
use Rattle.game_numbers.specs.declared.key.Key.TheVariants.{Blue, Yellow, Red}
use Rattle.game_numbers.proofs.MarkLemmas.{all_below, agree_at, has-past}

-- a test of a yes and a no
abbrev implies : Bool → Bool → Bool
implies a b = not a || b

by_implies : (a b : Bool) → implies a b ≡ true → IsTrue a → IsTrue b
by_implies true b same t = same
by_implies false b same t = absurd (let other : false ≡ true = t in cc)

apart_by : (a b : Bool) → implies a (not b) ≡ true → IsTrue a → IsTrue b → ⊥
apart_by true true same t u = let other : false ≡ true = same in cc
apart_by true false same t u = let other : false ≡ true = u in cc
apart_by false b same t u = let other : false ≡ true = t in cc

among : (numbers all : List ℕ) → all_below 142 numbers ≡ true
    → map (λ n. implies (has numbers n) (has all n)) (range_with_len 0 142) ≡ map (λ n. true) (range_with_len 0 142)
    → AreAmong numbers all
among numbers all few same (pos n) t = elim (cases_lt n 142) [
  | inl below ↦ by_implies (has numbers n) (has all n) (agree_at (λ k. implies (has numbers k) (has all k)) (λ k. true) 142 n same below) t
  | inr past ↦ absurd (let other : has numbers n ≡ false = has-past 142 numbers n few past in let is : has numbers n ≡ true = t in cc)
]
among numbers all few same (negsuc n) t = absurd (let other : false ≡ true = t in cc)

apart : (numbers others : List ℕ) → all_below 142 numbers ≡ true
    → map (λ n. implies (has numbers n) (not (has others n))) (range_with_len 0 142) ≡ map (λ n. true) (range_with_len 0 142)
    → AreApart numbers others
apart numbers others few same (pos n) t u = elim (cases_lt n 142) [
  | inl below ↦ apart_by (has numbers n) (has others n) (agree_at (λ k. implies (has numbers k) (not (has others k))) (λ k. true) 142 n same below) t u
  | inr past ↦ let other : has numbers n ≡ false = has-past 142 numbers n few past in let is : has numbers n ≡ true = t in cc
]
apart numbers others few same (negsuc n) t u = let other : false ≡ true = t in cc

crossed_used : AreApart crossed used
unfolding crossed used
crossed_used = apart crossed used refl refl

crossed_shot : AreApart crossed shot
unfolding crossed shot
crossed_shot = apart crossed shot refl refl

crossed_scrolling : AreApart crossed scrolling
unfolding crossed scrolling
crossed_scrolling = apart crossed scrolling refl refl

used_shot : AreApart used shot
unfolding used shot
used_shot = apart used shot refl refl

used_scrolling : AreApart used scrolling
unfolding used scrolling
used_scrolling = apart used scrolling refl refl

shot_scrolling : AreApart shot scrolling
unfolding shot scrolling
shot_scrolling = apart shot scrolling refl refl

door_is_used : AreAmong door used
unfolding door used
door_is_used = among door used refl refl

blue_lock_is_used : AreAmong blue_lock used
unfolding blue_lock used
blue_lock_is_used = among blue_lock used refl refl

yellow_lock_is_used : AreAmong yellow_lock used
unfolding yellow_lock used
yellow_lock_is_used = among yellow_lock used refl refl

red_lock_is_used : AreAmong red_lock used
unfolding red_lock used
red_lock_is_used = among red_lock used refl refl

teleport_is_crossed : AreAmong teleport crossed
unfolding teleport crossed
teleport_is_crossed = among teleport crossed refl refl

change_is_crossed : AreAmong change crossed
unfolding change crossed
change_is_crossed = among change crossed refl refl

platform_is_tagged : AreAmong platform tagged
unfolding platform tagged
platform_is_tagged = among platform tagged refl refl

ceiling_is_tagged : AreAmong ceiling tagged
unfolding ceiling tagged
ceiling_is_tagged = among ceiling tagged refl refl

nearest_is_tagged : AreAmong nearest tagged
unfolding nearest tagged
nearest_is_tagged = among nearest tagged refl refl

change_is_tagged : AreAmong change tagged
unfolding change tagged
change_is_tagged = among change tagged refl refl

each_way : (special : ℤ) → is_one_of game special ≡ (is_one_of crossed special || is_one_of used special || is_one_of shot special || is_one_of scrolling special)
unfolding game crossed used shot scrolling
each_way (pos n) = elim (cases_lt n 142) [
  | inl below ↦ agree_at (has game) (λ k. has crossed k || has used k || has shot k || has scrolling k) 142 n refl below
  | inr past ↦
      rw (has-past 142 game n refl past, has-past 142 crossed n refl past, has-past 142 used n refl past, has-past 142 shot n refl past, has-past 142 scrolling n refl past)
      refl
]
each_way (negsuc n) = refl

pub in_one_way : ActInOneWay
in_one_way = record {
  all = each_way;
  crossed_used = crossed_used;
  crossed_shot = crossed_shot;
  crossed_scrolling = crossed_scrolling;
  used_shot = used_shot;
  used_scrolling = used_scrolling;
  shot_scrolling = shot_scrolling;
}

pub others_tagged : TheOthersAreTagged
unfolding game door exit teleport scrolling tagged
others_tagged (pos n) = elim (cases_lt n 142) [
  | inl below ↦
      agree_at (has tagged) (λ k. has game k && not (has door k || has exit k || has teleport k || has scrolling k)) 142 n refl below
  | inr past ↦ rw (has-past 142 tagged n refl past, has-past 142 game n refl past) refl
]
others_tagged (negsuc n) = refl

missile_is_crossed : AreAmong missile crossed
unfolding missile crossed
missile_is_crossed = among missile crossed refl refl

monster_is_teleport : AreAmong monster teleport
unfolding monster teleport
monster_is_teleport = among monster teleport refl refl

perpetual_is_platform : AreAmong perpetual platform
unfolding perpetual platform
perpetual_is_platform = among perpetual platform refl refl

locked_used : (key : Key) → AreAmong (locks key) used
locked_used Blue = blue_lock_is_used
locked_used Yellow = yellow_lock_is_used
locked_used Red = red_lock_is_used

pub of_their_kind : AreOfTheirKind
of_their_kind = record {
  doors = door_is_used;
  locked = locked_used;
  teleporters = teleport_is_crossed;
  changes = change_is_crossed;
  missiles = missile_is_crossed;
  monsters = monster_is_teleport;
  platforms = platform_is_tagged;
  perpetual_platforms = perpetual_is_platform;
  ceilings = ceiling_is_tagged;
  nearest = nearest_is_tagged;
  tagged_changes = change_is_tagged;
}
