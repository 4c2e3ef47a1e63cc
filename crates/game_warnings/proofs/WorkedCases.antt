-- Each warning on a square room, where it holds and where it doesn't.
use Rattle.std.proofs.Common.{◌≡◌, ◌≢◌, inl, inr, ◌++◌, ℕ, ◌<◌, ℤ, pos, negsuc, true, false, List, [], ◌∷◌, refl, Option, None, Some, take, suc, zero, slice_index, ap, subst, sym, arith}
use Rattle.std.specs.Prelude.{codes, map, replicate, IsSomeAnd, IsTrue}
use Rattle.std.specs.List.{slice_get}
use Rattle.std.specs.Option.{option_map_or}
use Rattle.std.proofs.lemmas.Int.{ints}
use Rattle.le_rec.specs.Name.{padded}
use Rattle.le_rec.specs.Number.{signed16, signed32, unsigned16, unsigned32}
use Rattle.le_rec.specs.Table.{Rows}
use Rattle.le_rec.specs.declared.records.Entry.{Entry}
use Rattle.le_rec.specs.declared.records.LineDef.{LineDef}
use Rattle.le_rec.specs.declared.records.Sector.{Sector}
use Rattle.le_rec.specs.declared.records.SideDef.{SideDef}
use Rattle.le_rec.specs.declared.records.Thing.{Thing}
use Rattle.wad_dir.specs.Entries.{names}
use Rattle.wad_dir.specs.Wad.{Wad}
use Rattle.wad_dir.specs.Winner.{Wins}
use Rattle.wad_dir.specs.declared.header.Kind.{Kind}
use Rattle.wad_dir.specs.declared.header.Kind.TheVariants.{Iwad, Pwad}
use Rattle.wad_dir.proofs.WinnerLemmas.{Wins-one}
use Rattle.map_level.specs.Level.{Level}
use Rattle.map_level.specs.Links.{linedefs_of, sectors_of, things_of}
use Rattle.map_level.specs.declared.reading.Reading.TheVariants.{Signed}
use Rattle.game_numbers.specs.Number.{is_one_of}
use Rattle.game_numbers.specs.Kinds.{blue_key, game_kinds, second_game}
use Rattle.game_numbers.specs.SectorSpecials.{exit_floor, flashing, glowing, survived, timed_door}
use Rattle.game_numbers.specs.Specials.{blue_lock, ceiling, change, crossed, door, exit, game, missile, monster, nearest, perpetual, platform, scrolling, tagged, teleport}
use Rattle.game_numbers.specs.declared.key.Key.TheVariants.{Blue}
use Rattle.game_warnings.specs.Holds.{Holds}
use Rattle.game_warnings.specs.Change.{ended}
use Rattle.game_warnings.specs.Exit.{EndsLevel, IsBoss}
use Rattle.game_warnings.specs.Skill.{is_placed}
use Rattle.game_warnings.specs.Harm.{HasManyNeighbours}
use Rattle.game_warnings.specs.Misplaced.{IsOutside}
use Rattle.game_warnings.specs.Patches.{patch_at, patch_total, texture_at}
use Rattle.game_warnings.specs.Sides.{IsLineAt}
use Rattle.game_warnings.specs.declared.search.Search.TheVariants.{Found, Lost}
use Rattle.game_warnings.specs.declared.warning.Harm.TheVariants.{NoRing, NoNeighbour}
use Rattle.map_level.specs.SectorOf.{sector_of}
use Rattle.map_tree.specs.Child.{IsReached}
use Rattle.map_tree.specs.Paths.{ssector}
use Rattle.game_warnings.specs.Crossing.{Bars}
use Rattle.game_warnings.specs.Destination.{HasDestination, LeadsNowhere}
use Rattle.game_warnings.specs.Tags.{HasTag}
use Rattle.game_warnings.specs.Save.{saved}
use Rattle.game_warnings.specs.declared.warning.Barrier.{Barrier}
use Rattle.game_warnings.specs.declared.warning.Barrier.TheVariants.{NoBack, LetsNone}
use Rattle.game_warnings.specs.declared.warning.Surface.{Surface}
use Rattle.game_warnings.specs.declared.warning.Surface.TheVariants.{Floor, Ceiling}
use Rattle.game_warnings.specs.declared.warning.GameWarning.TheVariants.{UnknownSpecial, ZeroTag, NeverCrossed, OneSidedDoor, ManyPlatforms, ManyCeilings, Harmful, DeadlyFloor, NoExit, Locked, EndsThings, InNoSkill, NoTarget, ManyTargets, ManyScrolling, ManyPerpetual, ManyStarts, LongSave, MisplacedFlat}

abbrev rows : {R : Type 0} → List R → Rows R
rows records = record { records = records; rest = 0 }

-- linedef 4 and later: a special and a tag, flags, and whether there is a back
abbrev line : ℤ → ℤ → ℤ → ℤ → LineDef
line special tag flags side1 = record { v1 = pos 4; v2 = pos 5; flags = flags; special = special; tag = tag; side0 = pos 0; side1 = side1 }

abbrev one_sided : ℤ → ℤ → LineDef
one_sided special tag = line special tag (pos 1) (negsuc 0)

abbrev two_sided : ℤ → ℤ → LineDef
two_sided special tag = line special tag (pos 4) (pos 1)

abbrev thing : ℤ → ℤ → Thing
thing kind options = record { x = pos 64; y = pos 64; angle = pos 0; kind = kind; options = options }

abbrev sector : ℤ → ℤ → Sector
sector special tag = record {
  floor = pos 0;
  ceiling = pos 128;
  floor_name = padded (codes "FLAT");
  ceiling_name = padded (codes "FLAT");
  light = pos 160;
  special = special;
  tag = tag;
}

abbrev side : SideDef
side = record { xoff = pos 0; yoff = pos 0; top = padded (codes "-"); bottom = padded (codes "-"); middle = padded (codes "WALL"); sector = pos 0 }

-- SQUARE under a name, with more things, linedefs and sectors behind its own
abbrev named_square : List ℕ → List Thing → List LineDef → List Sector → Level
named_square name things linedefs sectors = record {
  label = 0;
  reading = Signed;
  names = name ∷ [];
  things = rows (record { x = pos 128; y = pos 128; angle = pos 0; kind = pos 1; options = pos 7 } ∷ things);
  linedefs = rows (one_sided (pos 0) (pos 0) ∷ one_sided (pos 0) (pos 0) ∷ one_sided (pos 0) (pos 0) ∷ one_sided (pos 0) (pos 0) ∷ linedefs);
  sidedefs = rows (side ∷ side ∷ side ∷ side ∷ []);
  vertexes = rows [];
  segs = rows [];
  ssectors = rows [];
  nodes = rows [];
  sectors = rows (sector (pos 0) (pos 0) ∷ sectors);
  reject = [];
  blockmap = [];
}

abbrev square : List Thing → List LineDef → List Sector → Level
square things linedefs sectors = named_square (codes "MAP01") things linedefs sectors

abbrev with_line : LineDef → Level
with_line linedef = square [] (linedef ∷ []) []

-- W14: 142, -1 and 85 are none of the game's, 141 is one
special_142 : Holds None (with_line (one_sided (pos 142) (pos 0))) (UnknownSpecial 4)
unfolding game
special_142 = (λ e. cc, refl)

special_below_0 : Holds None (with_line (one_sided (negsuc 0) (pos 0))) (UnknownSpecial 4)
special_below_0 = (λ e. cc, refl)

special_85 : Holds None (with_line (one_sided (pos 85) (pos 0))) (UnknownSpecial 4)
unfolding game
special_85 = (λ e. cc, refl)

special_141 : ¬ Holds None (with_line (one_sided (pos 141) (pos 0))) (UnknownSpecial 4)
unfolding game
special_141 h = let other : true ≡ false = h.1 in cc

-- W15: 23 goes by the tag; a door, a teleporter and scrolling don't
special_23 : Holds None (with_line (one_sided (pos 23) (pos 0))) (ZeroTag 4 1)
unfolding tagged
special_23 = ((refl, refl), refl)

special_1 : (sectors : ℕ) → ¬ Holds None (with_line (two_sided (pos 1) (pos 0))) (ZeroTag 4 sectors)
unfolding tagged
special_1 sectors h = let other : false ≡ true = h.0.1 in cc

special_97 : (sectors : ℕ) → ¬ Holds None (with_line (two_sided (pos 97) (pos 0))) (ZeroTag 4 sectors)
unfolding tagged
special_97 sectors h = let other : false ≡ true = h.0.1 in cc

special_48 : (sectors : ℕ) → ¬ Holds None (with_line (two_sided (pos 48) (pos 0))) (ZeroTag 4 sectors)
unfolding tagged
special_48 sectors h = let other : false ≡ true = h.0.1 in cc

-- W16: 36 on a wall; on a line with flag 1; 88 on one, which some missiles trigger
no_back : Holds None (with_line (one_sided (pos 36) (pos 3))) (NeverCrossed 4 NoBack)
unfolding crossed
no_back = (refl, refl)

lets_none : Holds None (with_line (line (pos 36) (pos 3) (pos 5) (pos 1))) (NeverCrossed 4 LetsNone)
unfolding crossed missile
lets_none = (refl, (λ e. cc, inl (λ e. let bits : pos 1 ≡ pos 0 = e in cc, refl)))

some_missiles : (barrier : Barrier) → ¬ Holds None (with_line (line (pos 88) (pos 3) (pos 5) (pos 1))) (NeverCrossed 4 barrier)
unfolding crossed missile monster
some_missiles NoBack h = let other : pos 1 ≡ negsuc 0 = h.1 in cc
some_missiles LetsNone h = elim h.1.1 [
  | inl stops ↦ let other : true ≡ false = stops.1 in cc
  | inr stops ↦ let other : false ≡ true = stops.1 in cc
]

-- the square with segs, all in one ssector, a teleporter to tag 3 and a destination
abbrev hall : ℤ → List Sector → Level
hall tag sectors = record (square (thing (pos 14) (pos 7) ∷ []) (two_sided (pos 97) (pos 3) ∷ []) sectors) {
  segs = rows (record { v1 = pos 0; v2 = pos 1; angle = pos 0; linedef = pos 0; side = pos 0; offset = pos 0 } ∷ []);
  ssectors = rows (record { count = pos 1; first = pos 0 } ∷ []);
  sectors = rows (sector (pos 0) tag ∷ sectors);
}

-- the destination stands in sector 0, which has tag 3
destination : HasDestination (hall (pos 3) []) (pos 3)
destination = (
  1,
  record {
    kind = refl;
    placed = refl;
    sector = 0;
    stands = record {
      column = record { least = omega (arith, ints); greatest = omega (arith, ints) };
      row = record { least = omega (arith, ints); greatest = omega (arith, ints) };
      ssector = 0;
      lies = (record { reached = (0, refl); agrees = λ n s leads. absurd (let none : None ≡ Some leads.0 = leads.1 in cc) }, refl);
    };
    tagged = refl;
  },
)

-- sector 1 has tag 3, and the destination doesn't stand there
one_ssector : (t : ℕ) → IsReached (hall (pos 0) (sector (pos 0) (pos 3) ∷ [])) (ssector t) → 0 ≡ t
one_ssector t (zero, same) = cc
one_ssector t (suc steps, leads) = absurd leads

same_sector : (a b : ℕ) → Some a ≡ Some b → a ≡ b
same_sector a b e = cc

no_destination : ¬ HasDestination (hall (pos 0) (sector (pos 0) (pos 3) ∷ [])) (pos 3)
no_destination (zero, leads) = let kind : pos 1 ≡ pos 14 = leads.kind in cc
no_destination (suc zero, leads) =
    let level = hall (pos 0) (sector (pos 0) (pos 3) ∷ []) in
    let first = one_ssector leads.stands.ssector leads.stands.lies.0.reached in
    let found = subst (λ t. sector_of level t ≡ Some leads.sector) (sym first) leads.stands.lies.1 in
    let zeroth = same_sector 0 leads.sector found in
    let tag : pos 0 ≡ pos 3 = subst (λ s. HasTag level s (pos 3)) (sym zeroth) leads.tagged in
    cc
no_destination (suc (suc k), leads) = leads

passable : (barrier : Barrier) → ¬ Bars (hall (pos 0) (sector (pos 0) (pos 3) ∷ [])) (two_sided (pos 97) (pos 3)) barrier
passable NoBack h = let other : pos 1 ≡ negsuc 0 = h in cc
passable LetsNone h = elim h.1 [ inl stops ↦ stops.0 refl | inr stops ↦ stops.0 refl ]

lost : LeadsNowhere (hall (pos 0) (sector (pos 0) (pos 3) ∷ [])) (two_sided (pos 97) (pos 3))
unfolding teleport
lost = record {
  teleports = refl;
  passed = passable;
  there = (1, refl);
  none = no_destination;
}

-- W17: a door in a wall; a platform that 31 sectors answer, and one more that has a door from the start; and 30
door_27 : Holds None (with_line (one_sided (pos 27) (pos 0))) (OneSidedDoor 4)
unfolding door
door_27 = (refl, refl)

door_with_back : ¬ Holds None (with_line (two_sided (pos 27) (pos 0))) (OneSidedDoor 4)
door_with_back h = let other : pos 1 ≡ negsuc 0 = h.1 in cc

abbrev lifts : ℕ → Level
lifts count = square [] (two_sided (pos 21) (pos 5) ∷ []) (sector (pos 10) (pos 5) ∷ replicate count (sector (pos 0) (pos 5)))

platforms_31 : Holds None (lifts 31) (ManyPlatforms 4 31)
unfolding platform timed_door
platforms_31 = record { special = refl; are = refl; many = omega arith }

platforms_30 : (platforms : ℕ) → ¬ Holds None (lifts 30) (ManyPlatforms 4 platforms)
unfolding timed_door
platforms_30 platforms h = let count : platforms ≡ 30 = h.are in let above = h.many in omega arith

ceilings_31 : Holds None (square [] (two_sided (pos 41) (pos 5) ∷ []) (replicate 31 (sector (pos 0) (pos 5)))) (ManyCeilings 4 31)
unfolding ceiling timed_door
ceilings_31 = record { special = refl; are = refl; many = omega arith }

-- two sectors on both sides of linedefs with flag 4: sector 1 in front, and another at the back
abbrev of_sector : ℤ → SideDef
of_sector s = record side { sector = s }

abbrev between : ℤ → ℤ → LineDef
between front back = record { v1 = pos 4; v2 = pos 5; flags = pos 4; special = pos 0; tag = pos 0; side0 = front; side1 = back }

abbrev high : ℤ → Sector → Sector
high floor sector = record sector { floor = floor }

-- a linedef of a special and a tag in SQUARE, and sector 1 of the tag (floor 8) beside sector 2 and then sector 3
abbrev beside : ℤ → ℤ → ℤ → Level
beside special second third = record (square [] (two_sided special (pos 9) ∷ between (pos 4) (pos 5) ∷ between (pos 6) (pos 7) ∷ [])
    (high (pos 8) (sector (pos 0) (pos 9)) ∷ high second (sector (pos 0) (pos 0)) ∷ high third (sector (pos 0) (pos 0)) ∷ [])) {
      sidedefs = rows (side ∷ side ∷ side ∷ side ∷ of_sector (pos 1) ∷ of_sector (pos 2) ∷ of_sector (pos 1) ∷ of_sector (pos 3) ∷ []);
    }

-- the lower one second: the search goes by the first one's linedefs, of which there is one
lower_second : ended (beside (pos 37) (pos 0) (negsuc 7)) 1 ≡ Lost
lower_second = refl

lower_first : ended (beside (pos 37) (negsuc 7) (pos 0)) 1 ≡ Found
lower_first = refl

first_tagged : (second third : ℤ) (s : ℕ) → s < 1 → ¬ HasTag (beside (pos 37) second third) s (pos 9)
first_tagged second third zero less tagged = let tag : pos 0 ≡ pos 9 = tagged in cc
first_tagged second third (suc s) less tagged = omega (arith, less)

no_neighbour : Holds None (beside (pos 37) (pos 0) (negsuc 7)) (Harmful 4 (NoNeighbour 1 (negsuc 7)))
unfolding change timed_door
no_neighbour = record {
  special = refl;
  first = record {
    sector = 1;
    tagged = refl;
    is = (refl, (refl, refl, record { none = λ found. let other : Lost ≡ Found = found in cc; is = refl }));
    first = λ s other less tagged. absurd (first_tagged (pos 0) (negsuc 7) s less tagged);
  };
}

-- a donut whose pillar begins with a wall
abbrev walled : Level
walled = record (square [] (two_sided (pos 9) (pos 6) ∷ record (between (pos 4) (negsuc 0)) { flags = pos 1 } ∷ []) (sector (pos 0) (pos 6) ∷ [])) {
  sidedefs = rows (side ∷ side ∷ side ∷ side ∷ of_sector (pos 1) ∷ []);
}

walled_first : (s : ℕ) → s < 1 → ¬ HasTag walled s (pos 6)
walled_first zero less tagged = let tag : pos 0 ≡ pos 6 = tagged in cc
walled_first (suc s) less tagged = omega (arith, less)

before_five : (k : ℕ) → k < 5 → ¬ IsLineAt walled 1 k
before_five zero less line = let other : false ≡ true = line in cc
before_five (suc zero) less line = let other : false ≡ true = line in cc
before_five (suc (suc zero)) less line = let other : false ≡ true = line in cc
before_five (suc (suc (suc zero))) less line = let other : false ≡ true = line in cc
before_five (suc (suc (suc (suc zero)))) less line = let other : false ≡ true = line in cc
before_five (suc (suc (suc (suc (suc k))))) less line = omega (arith, less)

no_ring : Holds None walled (Harmful 4 (NoRing 5 1))
unfolding timed_door
no_ring = record {
  special = refl;
  first = record {
    sector = 1;
    tagged = refl;
    is = (refl, (refl, refl, record { first = record { here = refl; before = before_five }; none = refl }));
    first = λ s other less tagged. absurd (walled_first s less tagged);
  };
}

-- 21 linedefs lead up from a sector, and 20
abbrev crowd : ℕ → Level
crowd count = record (square [] (two_sided (pos 18) (pos 9) ∷ replicate count (between (pos 4) (pos 5)))
    (sector (pos 0) (pos 9) ∷ high (pos 8) (sector (pos 0) (pos 0)) ∷ [])) {
      sidedefs = rows (side ∷ side ∷ side ∷ side ∷ of_sector (pos 1) ∷ of_sector (pos 2) ∷ []);
    }

crowd_21 : HasManyNeighbours (crowd 21) 1 21
crowd_21 = record { are = refl; many = omega arith }

crowd_20 : (count : ℕ) → ¬ HasManyNeighbours (crowd 20) 1 count
crowd_20 count h = let are : count ≡ 20 = h.are in let many = h.many in omega arith

-- W18: special 15 and -1 end the game, 16 and 17 don't
abbrev floors : Level
floors = square [] [] (sector (pos 15) (pos 0) ∷ sector (pos 16) (pos 0) ∷ sector (negsuc 0) (pos 0) ∷ sector (pos 17) (pos 0) ∷ [])

special_15 : Holds None floors (DeadlyFloor 1)
unfolding survived
special_15 = refl

special_16 : ¬ Holds None floors (DeadlyFloor 2)
unfolding survived
special_16 h = let other : true ≡ false = h in cc

special_under_0 : Holds None floors (DeadlyFloor 3)
special_under_0 = refl

special_17 : ¬ Holds None floors (DeadlyFloor 4)
unfolding survived
special_17 h = let other : true ≡ false = h in cc

-- W19: special 51, and a floor of special 11, end the level
exit_51 : ¬ Holds None (with_line (one_sided (pos 51) (pos 0))) NoExit
unfolding exit crossed
exit_51 none = none (inl (4, (refl, λ barrier barred. let other : false ≡ true = barred.0 in cc)))

exit_floor_11 : ¬ Holds None (square [] [] (sector (pos 11) (pos 0) ∷ [])) NoExit
unfolding exit_floor
exit_floor_11 none = none (inr (inl (1, refl)))

-- nothing ends the square; nor does special 52 on a wall
no_floor_ends : (linedefs : List LineDef) (s : ℕ)
    → ¬ IsSomeAnd (slice_get (sectors_of (square [] linedefs [])) s) (λ sector. IsTrue (is_one_of exit_floor sector.special))
unfolding exit_floor
no_floor_ends linedefs zero ends = let other : false ≡ true = ends in cc
no_floor_ends linedefs (suc s) ends = ends

no_boss_ends : (linedefs : List LineDef) (k : ℕ)
    → ¬ IsSomeAnd (slice_get (things_of (square [] linedefs [])) k) (λ thing. IsBoss (square [] linedefs []) thing.kind × IsTrue (is_placed thing))
no_boss_ends linedefs zero ends = elim ends.0 [
  | inl brain ↦ let other : pos 1 ≡ pos 88 = brain in cc
  | inr boss ↦ elim boss [
    | inl second ↦ let other : pos 1 ≡ pos 16 = second.0 in cc
    | inr third ↦ let other : pos 1 ≡ pos 7 = third.0 in cc
  ]
]
no_boss_ends linedefs (suc k) ends = ends

no_wall_ends : (i : ℕ) → ¬ IsSomeAnd (slice_get (linedefs_of (square [] [] [])) i) (EndsLevel (square [] [] []))
unfolding exit
no_wall_ends zero ends = let other : false ≡ true = ends.0 in cc
no_wall_ends (suc zero) ends = let other : false ≡ true = ends.0 in cc
no_wall_ends (suc (suc zero)) ends = let other : false ≡ true = ends.0 in cc
no_wall_ends (suc (suc (suc zero))) ends = let other : false ≡ true = ends.0 in cc
no_wall_ends (suc (suc (suc (suc i)))) ends = ends

no_exit : Holds None (square [] [] []) NoExit
no_exit ends = elim ends [
  | inl wall ↦ no_wall_ends wall.0 wall.1
  | inr other ↦ elim other [
    | inl floor ↦ no_floor_ends [] floor.0 floor.1
    | inr boss ↦ no_boss_ends [] boss.0 boss.1
  ]
]

abbrev exit_in_a_wall : LineDef
exit_in_a_wall = one_sided (pos 52) (pos 0)

not_crossed_ends : (i : ℕ) → ¬ IsSomeAnd (slice_get (linedefs_of (with_line exit_in_a_wall)) i) (EndsLevel (with_line exit_in_a_wall))
unfolding exit crossed
not_crossed_ends zero ends = let other : false ≡ true = ends.0 in cc
not_crossed_ends (suc zero) ends = let other : false ≡ true = ends.0 in cc
not_crossed_ends (suc (suc zero)) ends = let other : false ≡ true = ends.0 in cc
not_crossed_ends (suc (suc (suc zero))) ends = let other : false ≡ true = ends.0 in cc
not_crossed_ends (suc (suc (suc (suc zero)))) ends = ends.1 NoBack (refl, refl)
not_crossed_ends (suc (suc (suc (suc (suc i))))) ends = ends

exit_52_in_a_wall : Holds None (with_line exit_in_a_wall) NoExit
exit_52_in_a_wall ends = elim ends [
  | inl wall ↦ not_crossed_ends wall.0 wall.1
  | inr other ↦ elim other [
    | inl floor ↦ no_floor_ends (exit_in_a_wall ∷ []) floor.0 floor.1
    | inr boss ↦ no_boss_ends (exit_in_a_wall ∷ []) boss.0 boss.1
  ]
]

-- two blue locks, a key that is there in hard alone and one for several players
blue_locks : Holds None (square (thing (pos 40) (pos 4) ∷ thing (pos 5) (pos 23) ∷ []) (one_sided (pos 26) (pos 0) ∷ one_sided (pos 133) (pos 0) ∷ []) [])
    (Locked Blue 2 (record { easy = true; medium = true; hard = false }))
unfolding blue_lock blue_key
blue_locks = record { count = refl; some = omega arith; are = refl; lack = refl }

-- W21: the reading ends in E1M1, and not in MAP01
abbrev shooters : List Thing
shooters = thing (pos 64) (pos 7) ∷ thing (pos 3001) (pos 7) ∷ thing (pos 2001) (pos 7) ∷ []

ends : Holds None (named_square (codes "E1M1") shooters [] []) (EndsThings 1 2)
unfolding second_game
ends = (refl, refl)

ends_not : (follow : ℕ) → ¬ Holds None (named_square (codes "MAP01") shooters [] []) (EndsThings 1 follow)
ends_not follow h = let other : ◌≡◌ {A = ℕ} 1 4 = h.0 in omega arith

no_skill : Holds None (square (thing (pos 2013) (pos 8) ∷ []) [] []) (InNoSkill 1)
unfolding game_kinds
no_skill = (refl, refl)

-- a shooter whose target isn't there in medium
no_target : Holds None (square (thing (pos 89) (pos 7) ∷ thing (pos 87) (pos 5) ∷ []) [] []) (NoTarget 1 (record { easy = false; medium = true; hard = false }))
no_target = record { kind = refl; are = refl; some = refl }

-- one with 33 targets in easy, and 32 in the other skills
many_targets : Holds None (square (thing (pos 89) (pos 7) ∷ (replicate 32 (thing (pos 87) (pos 7)) ++ (thing (pos 87) (pos 1) ∷ []))) [] [])
    (ManyTargets 1 (record { easy = true; medium = false; hard = false }))
many_targets = record { kind = refl; are = refl; some = refl }

-- W22: 65 linedefs scroll; 64 are none too many
scrolling_65 : Holds None (square [] (replicate 65 (one_sided (pos 48) (pos 0))) []) (ManyScrolling 65)
unfolding scrolling
scrolling_65 = (refl, omega arith)

scrolling_64 : (linedefs : ℕ) → ¬ Holds None (square [] (replicate 64 (one_sided (pos 48) (pos 0))) []) (ManyScrolling linedefs)
unfolding scrolling
scrolling_64 linedefs h = let count : linedefs ≡ 64 = h.0 in let above = h.1 in omega arith

-- 31 sectors of the tags of linedefs with 53 and 87
perpetual_31 : Holds None (square [] (two_sided (pos 53) (pos 4) ∷ two_sided (pos 87) (pos 5) ∷ [])
    (replicate 30 (sector (pos 0) (pos 4)) ++ (sector (pos 0) (pos 5) ∷ []))) (ManyPerpetual 31)
unfolding perpetual
perpetual_31 = (refl, omega arith)

-- 11 deathmatch starts
starts_11 : Holds None (square (replicate 11 (thing (pos 11) (pos 7))) [] []) (ManyStarts 11)
starts_11 = (refl, omega arith)

-- 1152 barrels, and 1151
save_1152 : saved (square (replicate 1152 (thing (pos 2035) (pos 7))) [] []) ≡ 180281
unfolding game_kinds flashing glowing timed_door
save_1152 = refl

save_1151 : saved (square (replicate 1151 (thing (pos 2035) (pos 7))) [] []) ≡ 180125
unfolding game_kinds flashing glowing timed_door
save_1151 = refl

long_save : Holds None (square (replicate 1152 (thing (pos 2035) (pos 7))) [] []) (LongSave 180281)
long_save = (sym save_1152, omega arith)

-- a TEXTURE1 of one texture with one patch, the one of number 2; and the same cut short
abbrev one_texture : List ℕ
one_texture = 1 ∷ 0 ∷ 0 ∷ 0 ∷ 8 ∷ 0 ∷ 0 ∷ 0 ∷ (replicate 20 0 ++ (1 ∷ 0 ∷ 0 ∷ 0 ∷ 0 ∷ 0 ∷ 2 ∷ 0 ∷ 0 ∷ 0 ∷ 0 ∷ 0 ∷ []))

texture_8 : texture_at one_texture 0 ≡ Some 8
unfolding signed32 unsigned32 signed16 unsigned16
texture_8 = refl

patch_2 : patch_at one_texture 8 0 ≡ pos 2
unfolding signed16 unsigned16
patch_2 = refl

one_patch : patch_total one_texture ≡ 1
unfolding signed32 unsigned32 signed16 unsigned16
one_patch = refl

cut_short : texture_at (take 39 one_texture) 0 ≡ None
unfolding signed32 unsigned32 signed16 unsigned16
cut_short = refl

-- W25: a file with a part of flats of its own, over a base with FLAT; and a file with F_END alone
abbrev entry : List ℕ → Entry
entry name = record { filepos = pos 12; size = pos 0; name = padded name }

abbrev wad : Kind → List (List ℕ) → Wad
wad kind own = record { bytes = []; kind = kind; entries = map entry own }

abbrev base : Wad
base = wad Iwad (codes "F_START" ∷ codes "FLAT" ∷ codes "F_END" ∷ [])

-- the first letter of a name
abbrev first_letter : Option (List ℕ) → ℕ
first_letter name = option_map_or (λ letters. slice_index letters 0) name 0

abbrev own_part : List Wad
own_part = base ∷ wad Pwad (codes "F_START" ∷ codes "MINE" ∷ codes "F_END" ∷ []) ∷ []

abbrev own_end : List Wad
own_end = base ∷ wad Pwad (codes "MINE" ∷ codes "F_END" ∷ []) ∷ []

part_starts : Wins (names own_part) (codes "F_START") 3
part_starts = record { named = refl; last = none }
  where
    none : (h : ℕ) → 3 < h → slice_get (names own_part) h ≢ Some (codes "F_START")
    none zero above is = absurd (omega (arith, above))
    none (suc zero) above is = absurd (omega (arith, above))
    none (suc (suc zero)) above is = absurd (omega (arith, above))
    none (suc (suc (suc zero))) above is = absurd (omega (arith, above))
    none (suc (suc (suc (suc zero)))) above is = let e : Some (codes "MINE") ≡ Some (codes "F_START") = is in cc
    none (suc (suc (suc (suc (suc zero))))) above is = let e : Some (codes "F_END") ≡ Some (codes "F_START") = is in cc
    none (suc (suc (suc (suc (suc (suc h)))))) above is = let e : ◌≡◌ {A = Option (List ℕ)} None (Some (codes "F_START")) = is in cc

part_ends : Wins (names own_part) (codes "F_END") 5
part_ends = record { named = refl; last = none }
  where
    none : (h : ℕ) → 5 < h → slice_get (names own_part) h ≢ Some (codes "F_END")
    none zero above is = absurd (omega (arith, above))
    none (suc zero) above is = absurd (omega (arith, above))
    none (suc (suc zero)) above is = absurd (omega (arith, above))
    none (suc (suc (suc zero))) above is = absurd (omega (arith, above))
    none (suc (suc (suc (suc zero)))) above is = absurd (omega (arith, above))
    none (suc (suc (suc (suc (suc zero))))) above is = absurd (omega (arith, above))
    none (suc (suc (suc (suc (suc (suc h)))))) above is = let e : ◌≡◌ {A = Option (List ℕ)} None (Some (codes "F_END")) = is in cc

part_flat : Wins (names own_part) (codes "FLAT") 1
part_flat = record { named = refl; last = none }
  where
    none : (h : ℕ) → 1 < h → slice_get (names own_part) h ≢ Some (codes "FLAT")
    none zero above is = absurd (omega (arith, above))
    none (suc zero) above is = absurd (omega (arith, above))
    none (suc (suc zero)) above is = let e : Some (codes "F_END") ≡ Some (codes "FLAT") = is in cc
    none (suc (suc (suc zero))) above is = let e : Some (codes "F_START") ≡ Some (codes "FLAT") = is in cc
    none (suc (suc (suc (suc zero)))) above is = absurd (let letter : ◌≡◌ {A = ℕ} 77 70 = ap first_letter is in omega arith)
    none (suc (suc (suc (suc (suc zero))))) above is = let e : Some (codes "F_END") ≡ Some (codes "FLAT") = is in cc
    none (suc (suc (suc (suc (suc (suc h)))))) above is = let e : ◌≡◌ {A = Option (List ℕ)} None (Some (codes "FLAT")) = is in cc

flat_before_its_part : Holds (Some own_part) (square [] [] []) (MisplacedFlat 0 Floor)
flat_before_its_part = record {
  start = 3;
  end = 5;
  ends = record { starts = part_starts; ends = part_ends };
  g = 1;
  wins = part_flat;
  out = λ between. let behind = between.0 in omega (arith, behind);
}

end_starts : Wins (names own_end) (codes "F_START") 0
end_starts = record { named = refl; last = none }
  where
    none : (h : ℕ) → 0 < h → slice_get (names own_end) h ≢ Some (codes "F_START")
    none zero above is = absurd (omega (arith, above))
    none (suc zero) above is = let e : Some (codes "FLAT") ≡ Some (codes "F_START") = is in cc
    none (suc (suc zero)) above is = let e : Some (codes "F_END") ≡ Some (codes "F_START") = is in cc
    none (suc (suc (suc zero))) above is = let e : Some (codes "MINE") ≡ Some (codes "F_START") = is in cc
    none (suc (suc (suc (suc zero)))) above is = let e : Some (codes "F_END") ≡ Some (codes "F_START") = is in cc
    none (suc (suc (suc (suc (suc h))))) above is = let e : ◌≡◌ {A = Option (List ℕ)} None (Some (codes "F_START")) = is in cc

end_ends : Wins (names own_end) (codes "F_END") 4
end_ends = record { named = refl; last = none }
  where
    none : (h : ℕ) → 4 < h → slice_get (names own_end) h ≢ Some (codes "F_END")
    none zero above is = absurd (omega (arith, above))
    none (suc zero) above is = absurd (omega (arith, above))
    none (suc (suc zero)) above is = absurd (omega (arith, above))
    none (suc (suc (suc zero))) above is = absurd (omega (arith, above))
    none (suc (suc (suc (suc zero)))) above is = absurd (omega (arith, above))
    none (suc (suc (suc (suc (suc h))))) above is = let e : ◌≡◌ {A = Option (List ℕ)} None (Some (codes "F_END")) = is in cc

end_flat : Wins (names own_end) (codes "FLAT") 1
end_flat = record { named = refl; last = none }
  where
    none : (h : ℕ) → 1 < h → slice_get (names own_end) h ≢ Some (codes "FLAT")
    none zero above is = absurd (omega (arith, above))
    none (suc zero) above is = absurd (omega (arith, above))
    none (suc (suc zero)) above is = let e : Some (codes "F_END") ≡ Some (codes "FLAT") = is in cc
    none (suc (suc (suc zero))) above is = absurd (let letter : ◌≡◌ {A = ℕ} 77 70 = ap first_letter is in omega arith)
    none (suc (suc (suc (suc zero)))) above is = let e : Some (codes "F_END") ≡ Some (codes "FLAT") = is in cc
    none (suc (suc (suc (suc (suc h))))) above is = let e : ◌≡◌ {A = Option (List ℕ)} None (Some (codes "FLAT")) = is in cc

flat_within : ¬ IsOutside own_end (codes "FLAT")
flat_within outside =
    let start : outside.start ≡ 0 = Wins-one (names own_end) (codes "F_START") outside.start 0 outside.ends.starts end_starts in
    let end : outside.end ≡ 4 = Wins-one (names own_end) (codes "F_END") outside.end 4 outside.ends.ends end_ends in
    let flat : outside.g ≡ 1 = Wins-one (names own_end) (codes "FLAT") outside.g 1 outside.wins end_flat in
    outside.out (omega (arith, start, flat), omega (arith, end, flat))

flat_up_to_another_end : (surface : Surface) → ¬ Holds (Some own_end) (square [] [] []) (MisplacedFlat 0 surface)
flat_up_to_another_end Floor h = flat_within h
flat_up_to_another_end Ceiling h = flat_within h
