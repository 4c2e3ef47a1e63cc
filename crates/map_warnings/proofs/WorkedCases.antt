-- Each warning on small levels, one that has it and one that lacks it.
use Rattle.std.proofs.Common.{◌≡◌, ◌≢◌, ◌++◌, inl, inr, ℕ, zero, suc, ◌<◌, ℤ, pos, negsuc, ◌<ℤ◌, Bool, true, false, List, [], ◌∷◌, get_or, Some, None, refl, sym, ap, subst, arith, below_none, below_more}
use Rattle.std.specs.Prelude.{codes}
use Rattle.std.proofs.lemmas.Bool.{cases_eq, le-ltb}
use Rattle.std.proofs.lemmas.Option.{same_Some}
use Rattle.std.proofs.lemmas.Bool.Decides.{nat_tests}
use Rattle.std.proofs.lemmas.Int.{ints}
use Rattle.std.specs.List.{slice_get}
use Rattle.le_rec.specs.Name.{padded}
use Rattle.le_rec.specs.Number.{signed32, unsigned32}
use Rattle.le_rec.specs.Table.{Rows}
use Rattle.le_rec.specs.declared.records.Entry.{Entry}
use Rattle.le_rec.specs.declared.records.LineDef.{LineDef}
use Rattle.le_rec.specs.declared.records.Sector.{Sector}
use Rattle.le_rec.specs.declared.records.Seg.{Seg}
use Rattle.le_rec.specs.declared.records.SideDef.{SideDef}
use Rattle.le_rec.specs.declared.records.Thing.{Thing}
use Rattle.map_geo.specs.Point.{point_at}
use Rattle.map_level.specs.Level.{Level}
use Rattle.map_level.specs.declared.reading.Reading.TheVariants.{Signed}
use Rattle.map_tree.specs.Child.{IsReached}
use Rattle.map_tree.specs.Paths.{ssector}
use Rattle.map_cells.specs.Shown.{IsBehind, IsSegOf, IsShown}
use Rattle.wad_dir.specs.Entries.{names}
use Rattle.wad_dir.specs.Wad.{Wad}
use Rattle.wad_dir.specs.declared.header.Kind.TheVariants.{Iwad}
use Rattle.map_warnings.specs.Closing.{leaving, reaching}
use Rattle.map_warnings.specs.Facing.{faced_by}
use Rattle.map_warnings.specs.Holds.{Holds}
use Rattle.map_warnings.specs.Listed.{HasEntry, IsFound, IsNameAt, IsTexture, ListsTexture}
use Rattle.map_warnings.specs.Starts.{HasNone}
use Rattle.map_warnings.specs.Tag.{IsSectorTag}
use Rattle.map_warnings.specs.declared.warning.SidePart.TheVariants.{Middle, Upper, Lower}
use Rattle.map_warnings.specs.declared.warning.Plane.TheVariants.{Ceiling}
use Rattle.map_warnings.specs.declared.warning.Side.TheVariants.{Front, Back}
use Rattle.map_warnings.specs.declared.warning.Warning.TheVariants.{Unclosed, Bare, InVoid, Untagged, Mismatched, Twin, NoStart, FewStarts, UnknownTexture, UnknownFlat, UnknownThing}
use Rattle.map_warnings.proofs.ListedLemmas.{found_one, name_one}

abbrev rows : {R : Type 0} → List R → Rows R
rows records = record { records = records; rest = 0 }

-- a linedef with a side in front alone, and one with both sides
abbrev wall : ℤ → ℤ → ℤ → LineDef
wall v1 v2 front = record { v1 = v1; v2 = v2; flags = pos 1; special = pos 0; tag = pos 0; side0 = front; side1 = negsuc 0 }

abbrev passage : LineDef
passage = record { v1 = pos 0; v2 = pos 1; flags = pos 4; special = pos 0; tag = pos 0; side0 = pos 0; side1 = pos 1 }

-- one that acts on the sectors of tag 5
abbrev switch : LineDef
switch = record { v1 = pos 0; v2 = pos 1; flags = pos 1; special = pos 18; tag = pos 5; side0 = pos 0; side1 = negsuc 0 }

-- a sidedef of one texture
abbrev side : List ℕ → ℤ → SideDef
side name sector = record { xoff = pos 0; yoff = pos 0; top = padded name; bottom = padded name; middle = padded name; sector = sector }

abbrev sector : ℤ → ℤ → List ℕ → ℤ → Sector
sector floor ceiling flat tag = record {
  floor = floor;
  ceiling = ceiling;
  floor_name = padded (codes "FLOOR");
  ceiling_name = padded flat;
  light = pos 160;
  special = pos 0;
  tag = tag;
}

abbrev plain : Sector
plain = sector (pos 0) (pos 128) (codes "CEIL") (pos 0)

abbrev thing : ℤ → ℤ → Thing
thing x kind = record { x = x; y = pos 8; angle = pos 0; kind = kind; options = pos 7 }

abbrev seg : ℤ → ℤ → ℤ → Seg
seg v1 v2 linedef = record { v1 = v1; v2 = v2; angle = pos 0; linedef = linedef; side = pos 0; offset = pos 0 }

-- a level whose three segs, in one ssector, go round a triangle
abbrev level : List Thing → List LineDef → List SideDef → List Sector → Level
level things linedefs sidedefs sectors = record {
  label = 0;
  reading = Signed;
  names = [];
  things = rows things;
  linedefs = rows linedefs;
  sidedefs = rows sidedefs;
  vertexes = rows (record { x = pos 0; y = pos 0 } ∷ record { x = pos 0; y = pos 64 } ∷ record { x = pos 64; y = pos 0 } ∷ []);
  segs = rows (seg (pos 0) (pos 1) (pos 0) ∷ seg (pos 1) (pos 2) (pos 1) ∷ seg (pos 2) (pos 0) (pos 2) ∷ []);
  ssectors = rows (record { count = pos 3; first = pos 0 } ∷ []);
  nodes = rows [];
  sectors = rows sectors;
  reject = [];
  blockmap = [];
}

-- a room of three walls, with things
abbrev room : List Thing → Level
room things =
    level things (wall (pos 0) (pos 1) (pos 0) ∷ wall (pos 1) (pos 2) (pos 0) ∷ wall (pos 2) (pos 0) (pos 0) ∷ []) (side (codes "STONE") (pos 0) ∷ []) (plain ∷ [])

-- the same with two sectors, of which the second wall faces the second
abbrev two_sectors : Level
two_sectors =
    level [] (wall (pos 0) (pos 1) (pos 0) ∷ wall (pos 1) (pos 2) (pos 1) ∷ wall (pos 2) (pos 0) (pos 0) ∷ [])
    (side (codes "STONE") (pos 0) ∷ side (codes "STONE") (pos 1) ∷ []) (plain ∷ plain ∷ [])

-- the room without its last wall
abbrev open_room : Level
open_room = level [] (wall (pos 0) (pos 1) (pos 0) ∷ wall (pos 1) (pos 2) (pos 0) ∷ []) (side (codes "STONE") (pos 0) ∷ []) (plain ∷ [])

-- W1: nothing leaves the vertex that the second of two walls reaches
open_leaving : leaving open_room 0 2 ≡ 0
open_leaving = refl

open_reaching : reaching open_room 0 2 ≡ 1
open_reaching = refl

unclosed : Holds None open_room (Unclosed 0 2)
unclosed same = omega (arith, same)

closed : (s v : ℕ) → ¬ Holds None (room []) (Unclosed s v)
closed s v differ = differ (grind (arith, nat_tests))

-- a linedef with both sides in one sector leaves and reaches both its ends
two_ways : (s v : ℕ) → ¬ Holds None (level [] (passage ∷ []) (side (codes "STONE") (pos 0) ∷ side (codes "STONE") (pos 0) ∷ []) (plain ∷ [])) (Unclosed s v)
two_ways s v differ = differ (grind (arith, nat_tests))

-- W2: no middle in front of a wall, none at the upper part below a higher ceiling, and at the lower part above a lower floor
bare_middle : Holds None (level [] (wall (pos 0) (pos 1) (pos 0) ∷ []) (side (codes "-") (pos 0) ∷ []) (plain ∷ [])) (Bare 0 Front Middle)
bare_middle = (refl, refl)

stone_middle : ¬ Holds None (room []) (Bare 0 Front Middle)
stone_middle bare = let name = bare.1 in cc

-- two sectors with a passage between them, whose sidedefs have no textures
abbrev between : Sector → Sector → Level
between here there = level [] (passage ∷ []) (side (codes "-") (pos 0) ∷ side (codes "-") (pos 1) ∷ []) (here ∷ there ∷ [])

bare_upper : Holds None (between plain (sector (pos 0) (pos 64) (codes "CEIL") (pos 0))) (Bare 0 Front Upper)
bare_upper = (refl, (omega (arith, ints), λ sky. let name = sky.0 in cc))

no_upper_behind : ¬ Holds None (between plain (sector (pos 0) (pos 64) (codes "CEIL") (pos 0))) (Bare 0 Back Upper)
no_upper_behind bare = let higher = bare.1.0 in absurd (omega (arith, ints))

no_upper_of_sky : ¬ Holds None (between (sector (pos 0) (pos 128) (codes "F_SKY1") (pos 0)) (sector (pos 0) (pos 64) (codes "F_SKY1") (pos 0))) (Bare 0 Front Upper)
no_upper_of_sky bare = bare.1.1 (refl, refl)

bare_lower : Holds None (between (sector (pos 24) (pos 128) (codes "CEIL") (pos 0)) plain) (Bare 0 Back Lower)
bare_lower = (refl, omega (arith, ints))

no_lower_of_one_height : ¬ Holds None (between plain plain) (Bare 0 Back Lower)
no_lower_of_one_height bare = let lower = bare.1 in absurd (omega (arith, ints))

-- W3: a thing inside the room, which shows its sector there, and one behind its first wall, where nothing is shown
in_front : (i : ℕ) → i < 3 → ¬ IsBehind (room (thing (pos 8) (pos 1) ∷ [])) i (point_at (pos 8) (pos 8))
in_front zero below behind = omega (arith, ints)
in_front (suc zero) below behind = omega (arith, ints)
in_front (suc (suc zero)) below behind = omega (arith, ints)
in_front (suc (suc (suc i))) below behind = omega arith

shown_inside : IsShown (room (thing (pos 8) (pos 1) ∷ [])) (pos 8) (pos 8) 0
shown_inside = record {
  column = record { least = omega (arith, ints); greatest = omega (arith, ints) };
  row = record { least = omega (arith, ints); greatest = omega (arith, ints) };
  t = 0;
  leaf = record { reached = (0, refl); agrees = λ n s leads. absurd (let none : None ≡ Some leads.0 = leads.1 in cc) };
  front = λ i of. in_front i (omega (arith, ints, of.1));
  sector = refl;
}

inside : ¬ Holds None (room (thing (pos 8) (pos 1) ∷ [])) (InVoid 0)
inside void = void.none 0 shown_inside

one_ssector : (t : ℕ) → IsReached (room (thing (negsuc 7) (pos 1) ∷ [])) (ssector t) → 0 ≡ t
one_ssector t (zero, same) = cc
one_ssector t (suc steps, leads) = absurd leads

outside : Holds None (room (thing (negsuc 7) (pos 1) ∷ [])) (InVoid 0)
outside = record {
  column = record { least = omega (arith, ints); greatest = omega (arith, ints) };
  row = record { least = omega (arith, ints); greatest = omega (arith, ints) };
  none = λ s shown.
      let only = one_ssector shown.t shown.leaf.reached in
      let first = subst (λ t. IsSegOf (room (thing (negsuc 7) (pos 1) ∷ [])) t 0) only (omega (arith, ints), omega (arith, ints)) in
      shown.front 0 first (omega (arith, ints));
}

-- W4: no sector has the switch's tag, and one has
no_tag : ¬ IsSectorTag (level [] (switch ∷ []) [] (plain ∷ [])) (pos 5)
no_tag (zero, is) = cc
no_tag (suc s, is) = is

untagged : Holds None (level [] (switch ∷ []) [] (plain ∷ [])) (Untagged 0)
untagged = (refl, λ e. cc, no_tag)

tagged : ¬ Holds None (level [] (switch ∷ []) [] (plain ∷ sector (pos 0) (pos 128) (codes "CEIL") (pos 5) ∷ [])) (Untagged 0)
tagged none = none.2 (1, refl)

-- an exit's tag means no sector
exit : ¬ Holds None (level [] (record switch { special = pos 11 } ∷ []) [] (plain ∷ [])) (Untagged 0)
exit told = absurd (let f : ◌≡◌ {A = Bool} false true = told.0 in cc)

-- W5: the segs of the ssector face one sector, and the second of them another one
mismatched : Holds None two_sectors (Mismatched 0 0 1)
mismatched = record {
  k = 1;
  some = omega arith;
  before = λ j below. below_more (λ j. faced_by two_sectors (pos 0) (pos 3) j ≡ Some 0) 0 (below_none _) refl j below;
  here = refl;
  differ = λ same. absurd (omega arith);
}

facing_one : (k other : ℕ) → faced_by (room []) (pos 0) (pos 3) k ≡ Some other → 0 ≡ other
facing_one zero other faced = same_Some 0 other faced
facing_one (suc zero) other faced = same_Some 0 other faced
facing_one (suc (suc zero)) other faced = same_Some 0 other faced
facing_one (suc (suc (suc k))) other faced = absurd (let none : None ≡ Some other = rw (le-ltb (suc (suc (suc k))) 3 (omega arith)) at faced in cc)

matched : (one other : ℕ) → ¬ Holds None (room []) (Mismatched 0 one other)
matched one other m = m.differ (omega (arith, facing_one m.k other m.here, facing_one 0 one (m.before 0 m.some)))

-- W6: a linedef on an earlier one, the other way round
twin : Holds None (level [] (wall (pos 0) (pos 1) (pos 0) ∷ wall (pos 1) (pos 2) (pos 0) ∷ wall (pos 1) (pos 0) (pos 0) ∷ []) [] []) (Twin 2 0)
twin = record { before = omega arith; same = inr ((refl, refl), (refl, refl)); first = λ j below. absurd (omega arith) }

no_twin : (earlier : ℕ) → ¬ Holds None (room []) (Twin 2 earlier)
no_twin zero t = elim t.same [
  | inl ways ↦ let x : pos 0 ≡ pos 64 = ways.0.0 in cc
  | inr ways ↦ let x : pos 0 ≡ pos 64 = ways.1.0 in cc
]
no_twin (suc zero) t = elim t.same [
  | inl ways ↦ let x : pos 0 ≡ pos 64 = ways.0.0 in cc
  | inr ways ↦ let y : pos 64 ≡ pos 0 = ways.0.1 in cc
]
no_twin (suc (suc earlier)) t = absurd (let before = t.before in omega arith)

-- W7: the first of players 2 to 4 that has no start
no_third : HasNone (room (thing (pos 8) (pos 1) ∷ thing (pos 8) (pos 2) ∷ [])) (pos 3)
no_third zero is = cc
no_third (suc zero) is = cc
no_third (suc (suc k)) is = is

no_start : Holds None (room (thing (pos 8) (pos 1) ∷ thing (pos 8) (pos 2) ∷ [])) (NoStart 3)
no_start = record {
  from = omega arith;
  to = omega arith;
  none = no_third;
  first = λ e from below. let second : e ≡ 2 = omega arith in rw second (1, refl);
}

all_start : (player : ℕ) → ¬ Holds None (room (thing (pos 8) (pos 4) ∷ thing (pos 8) (pos 2) ∷ thing (pos 8) (pos 3) ∷ [])) (NoStart player)
all_start player without = elim (cases_eq player 2) [
  | inl second ↦ without.none 1 (ap pos (sym second))
  | inr later ↦ elim (cases_eq player 3) [
    | inl third ↦ without.none 2 (ap pos (sym third))
    | inr last ↦ without.none 0 (ap pos (let fourth : 4 ≡ player = omega (arith, without.from, without.to) in fourth))
  ]
]

-- W8: fewer than four deathmatch starts
few_starts : Holds None (room (thing (pos 8) (pos 11) ∷ thing (pos 8) (pos 1) ∷ thing (pos 8) (pos 11) ∷ [])) (FewStarts 2)
few_starts = (refl, omega arith)

enough_starts : (starts : ℕ) → ¬ Holds None (room (thing (pos 8) (pos 11) ∷ thing (pos 8) (pos 11) ∷ thing (pos 8) (pos 11) ∷ thing (pos 8) (pos 11) ∷ [])) (FewStarts starts)
enough_starts starts few = let four : starts ≡ 4 = few.0 in let less = few.1 in omega arith

-- W11: of no kind of the game's, and placed by some skill
unknown_thing : Holds None (room (thing (pos 8) (pos 32000) ∷ [])) (UnknownThing 0)
unknown_thing = record {
  no_player = omega (arith, ints);
  no_deathmatch = λ same. cc;
  no_game = refl;
  placed = λ none. let bits : pos 7 ≡ pos 0 = none in cc;
}

known_thing : ¬ Holds None (room (thing (pos 8) (pos 2007) ∷ [])) (UnknownThing 0)
known_thing unknown = let known = unknown.no_game in cc

player_four : ¬ Holds None (room (thing (pos 8) (pos 4) ∷ [])) (UnknownThing 0)
player_four unknown = let above = unknown.no_player in omega (arith, ints)

deathmatch_start : ¬ Holds None (room (thing (pos 8) (pos 11) ∷ [])) (UnknownThing 0)
deathmatch_start unknown = unknown.no_deathmatch refl

in_no_skill : ¬ Holds None (room (record { x = pos 8; y = pos 8; angle = pos 0; kind = pos 32000; options = pos 8 } ∷ [])) (UnknownThing 0)
in_no_skill unknown = unknown.placed refl

-- a lump of one texture, of such a count, whose name stands at such an offset
abbrev texture_lump : List ℕ → List ℕ → List ℕ → List ℕ
texture_lump count offset name = count ++ (offset ++ padded name)

abbrev one : List ℕ
one = 1 ∷ 0 ∷ 0 ∷ 0 ∷ []

abbrev stone_lump : List ℕ
stone_lump = texture_lump one (8 ∷ 0 ∷ 0 ∷ 0 ∷ []) (codes "Stone")

-- Listed texture: a name that the lump has, without case, and no other
stone_at : IsNameAt stone_lump 0 (codes "STONE")
unfolding signed32 unsigned32
stone_at = record { at = 8; placed = refl; inside = omega arith; named = refl }

lists_stone : ListsTexture stone_lump (codes "STONE")
unfolding signed32 unsigned32
lists_stone = record { k = 0; offset = record { counted = omega (arith, ints); inside = omega arith }; here = stone_at }

first_alone : (name : List ℕ) → ListsTexture stone_lump name → name ≡ codes "STONE"
unfolding signed32 unsigned32
first_alone name lists =
    let counted : pos lists.k <ℤ pos 1 = lists.offset.counted in
    let first : lists.k ≡ 0 = omega (arith, ints, counted) in
    name_one stone_lump 0 name (codes "STONE") (subst (λ k. IsNameAt stone_lump k name) first lists.here) stone_at

-- a negative count, and a name across the lump's end
negative_count : (name : List ℕ) → ¬ ListsTexture (texture_lump (255 ∷ 255 ∷ 255 ∷ 255 ∷ []) (8 ∷ 0 ∷ 0 ∷ 0 ∷ []) (codes "STONE")) name
unfolding signed32 unsigned32
negative_count name lists =
    let counted : pos lists.k <ℤ negsuc 0 = lists.offset.counted in
    omega (arith, ints, counted)

across_the_end : (name : List ℕ) → ¬ IsNameAt (texture_lump one (9 ∷ 0 ∷ 0 ∷ 0 ∷ []) (codes "STONE")) 0 name
unfolding signed32 unsigned32
across_the_end name here =
    let placed : pos 9 ≡ pos here.at = here.placed in
    omega (arith, ints, placed, here.inside)

-- a file whose TEXTURE1 is this lump, with the flat FLAT1 behind F_START
abbrev lump_entry : ℕ → List ℕ → Entry
lump_entry size name = record { filepos = pos 0; size = pos size; name = padded name }

abbrev game : Wad
game = record {
  bytes = stone_lump;
  kind = Iwad;
  entries = lump_entry 16 (codes "TEXTURE1") ∷ lump_entry 0 (codes "F_START") ∷ lump_entry 0 (codes "FLAT1") ∷ [];
}

no_entry : (name : List ℕ) → codes "TEXTURE1" ≢ name → codes "F_START" ≢ name → codes "FLAT1" ≢ name → ¬ HasEntry (game ∷ []) name
no_entry name first second third (zero, is) = first (same_Some _ _ is)
no_entry name first second third (suc zero, is) = second (same_Some _ _ is)
no_entry name first second third (suc (suc zero), is) = third (same_Some _ _ is)
no_entry name first second third (suc (suc (suc g)), is) = let none : None ≡ Some name = is in cc

last_first : (h : ℕ) → 0 < h → slice_get (names (game ∷ [])) h ≢ Some (codes "TEXTURE1")
last_first zero after named = omega (arith, after)
last_first (suc zero) after named = let other : Some (codes "F_START") ≡ Some (codes "TEXTURE1") = named in cc
last_first (suc (suc zero)) after named = let other : Some (codes "FLAT1") ≡ Some (codes "TEXTURE1") = named in cc
last_first (suc (suc (suc h))) after named = let none : None ≡ Some (codes "TEXTURE1") = named in cc

found_first : IsFound (game ∷ []) (codes "TEXTURE1") stone_lump
found_first = record {
  g = 0;
  wins = record { named = refl; last = last_first };
  holds = record {
    listed = record { file = 1; bytes = stone_lump; entry = lump_entry 16 (codes "TEXTURE1") };
    numbered = refl;
    slice = record { sized = refl; stands = λ some. record { before = []; after = []; joined = refl; placed = refl } };
  };
}

first_is_not_second : codes "TEXTURE1" ≢ codes "TEXTURE2"
first_is_not_second same = let digit : 49 ≡ 50 = ap (λ name. get_or name 7 0) same in omega (arith, digit)

only_stone : (name : List ℕ) → IsTexture (game ∷ []) name → name ≡ codes "STONE"
only_stone name (inl listed) =
    first_alone name (subst (λ lump. ListsTexture lump name) (found_one (game ∷ []) (codes "TEXTURE1") listed.0 stone_lump listed.1 found_first) listed.2)
only_stone name (inr listed) =
    absurd (no_entry (codes "TEXTURE2") first_is_not_second (λ e. cc) (λ e. cc) (listed.1.g, listed.1.wins.named))

-- W9: a texture that isn't listed, one that is, and none
abbrev walled : List ℕ → Level
walled name = level [] [] (side name (pos 0) ∷ []) (plain ∷ [])

unknown_texture : Holds (Some (game ∷ [])) (walled (codes "WOOD")) (UnknownTexture 0 Upper)
unknown_texture = record { wanted = λ same. cc; none = λ there. let name = only_stone (codes "WOOD") there in cc }

known_texture : ¬ Holds (Some (game ∷ [])) (walled (codes "stone")) (UnknownTexture 0 Upper)
known_texture unknown = unknown.none (inl (stone_lump, found_first, lists_stone))

no_texture : ¬ Holds (Some (game ∷ [])) (walled (codes "-X")) (UnknownTexture 0 Upper)
no_texture unknown = unknown.wanted refl

-- W10: a flat that no entry has, and one that an entry has
abbrev covered : List ℕ → Level
covered name = level [] [] [] (sector (pos 0) (pos 128) name (pos 0) ∷ [])

flats_differ : codes "FLAT1" ≢ codes "FLAT2"
flats_differ same = let digit : 49 ≡ 50 = ap (λ name. get_or name 4 0) same in omega (arith, digit)

unknown_flat : Holds (Some (game ∷ [])) (covered (codes "FLAT2")) (UnknownFlat 0 Ceiling)
unknown_flat there = no_entry (codes "FLAT2") (λ e. cc) (λ e. cc) flats_differ there

known_flat : ¬ Holds (Some (game ∷ [])) (covered (codes "flat1")) (UnknownFlat 0 Ceiling)
known_flat unknown = unknown (2, refl)
