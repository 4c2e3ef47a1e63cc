-- The texts of findings, warnings, formats, labels and paths, computed on small levels: each is what stands here.
use Rattle.std.proofs.Common.{◌≡◌, ℕ, ℤ, pos, negsuc, Bool, true, false, List, [], ◌∷◌, ◌++◌, Some, None, replicate, refl}
use lib.Utf8.{encode}
use Rattle.std.specs.Fmt.{digits}
use Rattle.std.specs.Prelude.{codes}
use Rattle.std.specs.Str.{chars, is_utf8}
use Rattle.std.specs.Str.Lossy.{utf8_error_len, utf8_lossy, utf8_valid_len}
use Rattle.level_starts.specs.declared.format.Format.TheVariants as format
use Rattle.game_numbers.specs.declared.key.Key.TheVariants.{Blue}
use Rattle.game_warnings.specs.declared.skill.Skills.{Skills}
use Rattle.game_warnings.specs.declared.warning.Barrier.TheVariants.{NoBack, LetsNone}
use Rattle.game_warnings.specs.declared.warning.GameWarning.{GameWarning}
use Rattle.game_warnings.specs.declared.warning.GameWarning.TheVariants as game
use Rattle.game_warnings.specs.declared.warning.Harm.TheVariants.{NoLine, NoRing, OpenRing, ManyNeighbours, NoNeighbour}
use Rattle.game_warnings.specs.declared.warning.Surface.TheVariants.{Floor}
use Rattle.le_rec.specs.Name.{padded}
use Rattle.le_rec.specs.Number.{signed16, unsigned16}
use Rattle.map_warnings.specs.declared.warning.SidePart.TheVariants.{Middle, Upper, Lower}
use Rattle.map_warnings.specs.declared.warning.Plane.TheVariants.{Ceiling}
use Rattle.map_warnings.specs.declared.warning.Side.TheVariants.{Front, Back}
use Rattle.map_warnings.specs.declared.warning.Warning.{Warning}
use Rattle.map_warnings.specs.declared.warning.Warning.TheVariants as warning
use Rattle.level_codes.specs.Codes.{code_table}
use Rattle.level_codes.specs.declared.code.ReportCode.TheVariants as report
use Rattle.map_warnings.specs.Warnings.{code_of, number_of}
use Rattle.map_level.specs.Level.{Level}
use Rattle.map_level.specs.declared.finding.Code.{Code}
use Rattle.map_level.specs.declared.finding.Code.TheVariants.{F3, F4, F5, F6, F7, F8, F9, F10, F11, F12, F13, F14, F15, F16, F17, F18, N2, N3, N4, N5, N6, N7, N8, N9, N10, N11, N12}
use Rattle.map_level.specs.declared.reading.Reading.{Reading}
use Rattle.map_level.specs.declared.reading.Reading.TheVariants.{Signed, Wide}
use Rattle.lens_texts.specs.FormatLine.{format_text}
use Rattle.lens_texts.specs.GameMessage.{skills_text}
use Rattle.lens_texts.specs.JsonString.{json_string}
use Rattle.lens_texts.specs.Label.{label_text}
use Rattle.lens_texts.specs.Message.{message}
use Rattle.lens_texts.specs.LevelObject.{level_members, other_members}
use Rattle.lens_texts.specs.Place.{place_of, place_text}
use Rattle.lens_texts.specs.RemarkLine.{lead_text, remark_line, remark_words}
use Rattle.lens_texts.specs.declared.remark.Remark.TheVariants as remark
use Rattle.lens_texts.specs.declared.unread.Unread.TheVariants.{Udmf, Incomplete, Hexen, Outside, Extended}
use Rattle.node_lumps.specs.declared.broken.Broken.TheVariants as broken
use Rattle.node_lumps.specs.declared.format.NodeLump.TheVariants as lump
use Rattle.node_lumps.specs.declared.parts.Part.TheVariants as part
use Rattle.lens_texts.specs.ShownPath.{shown_after, shown_path}
use Rattle.lens_texts.specs.WarningMessage.{missing_text, texture_text, unknown_flat_text, unknown_thing_text, warning_message, warning_place}
use Rattle.lens_texts.proofs.CaseLevels.{rows, sector, thing, level, shown}

-- what stands behind the index
abbrev told : Reading → Code → ℕ → List ℕ
told reading code i = message (level reading) code i (place_text (place_of (level reading) code i) [])

end_vertex : told Signed F3 0 ≡ codes "end vertex 7 isn't there (2 vertexes)"
unfolding digits code_table
end_vertex = refl

start_vertex : told Signed F3 2 ≡ codes "start vertex -2 isn't there (2 vertexes)"
unfolding digits code_table
start_vertex = refl

start_vertex_wide : told Wide F3 2 ≡ codes "start vertex 65534 isn't there (2 vertexes)"
unfolding digits code_table
start_vertex_wide = refl

front_sidedef : told Signed F4 1 ≡ codes "front sidedef 9 isn't there (2 sidedefs), from (16, -16) to (20000, 1)"
unfolding digits code_table
front_sidedef = refl

front_sidedef_in_words : remark_words (level Signed) (remark.Finding (record { code = F4; index = 1 }))
    ≡ codes "F4 linedef 1: front sidedef 9 isn't there (2 sidedefs), from (16, -16) to (20000, 1)"
unfolding digits code_table
front_sidedef_in_words = refl

sector_named_second : told Signed F5 1 ≡ codes "sector -1 isn't there (0 sectors), of linedef 1"
unfolding digits code_table
sector_named_second = refl

sector_named_first : told Signed F5 0 ≡ codes "sector 4 isn't there (0 sectors), of linedef 0"
unfolding digits code_table
sector_named_first = refl

sector_wide : told Wide F5 1 ≡ codes "sector 65535 isn't there (0 sectors), of linedef 1"
unfolding digits code_table
sector_wide = refl

seg_end : told Signed F6 1 ≡ codes "end vertex 2 isn't there (2 vertexes)"
unfolding digits code_table
seg_end = refl

seg_linedef : told Signed F7 0 ≡ codes "linedef 5 isn't there (3 linedefs), from (20000, 1) to (16, -16)"
unfolding digits code_table
seg_linedef = refl

seg_side : told Signed F8 0 ≡ codes "side 2 is neither 0 nor 1, from (20000, 1) to (16, -16)"
unfolding digits code_table
seg_side = refl

sideless : told Signed F9 1 ≡ codes "linedef 2 has no sidedef on side 1"
unfolding digits code_table
sideless = refl

segs_missing : told Signed F10 0 ≡ codes "segs from 0, 9 of them, aren't all there (2 segs), at (20000, 1)"
unfolding digits code_table
segs_missing = refl

segs_nowhere : told Signed F10 1 ≡ codes "segs from 2, 1 of them, aren't all there (2 segs)"
unfolding digits code_table
segs_nowhere = refl

second_child : told Signed F11 0 ≡ codes "child 1 names ssector 3, which isn't there (2 ssectors), at (3, -4)"
unfolding digits code_table
second_child = refl

first_child : told Signed F11 1 ≡ codes "child 0 names node 2, which isn't there (2 nodes), at (20000, 0)"
unfolding digits code_table
first_child = refl

origin : told Signed F12 1 ≡ codes "origin (20000, 0) is outside -16384 to 16383"
unfolding digits code_table
origin = refl

named_twice : told Signed F13 0 ≡ codes "named more than once, at (3, -4)"
unfolding digits code_table
named_twice = refl

root_named : told Signed F13 1 ≡ codes "the root, and named, at (20000, 0)"
unfolding digits code_table
root_named = refl

not_reached : told Signed F14 0 ≡ codes "not reached from the root, at (3, -4)"
unfolding digits code_table
not_reached = refl

ssector_twice : told Signed F15 0 ≡ codes "named more than once, at (20000, 1)"
unfolding digits code_table
ssector_twice = refl

ssector_not_reached : told Signed F16 0 ≡ codes "not reached from the root, at (20000, 1)"
unfolding digits code_table
ssector_not_reached = refl

no_ssector : told Signed F17 0 ≡ codes "no ssector"
unfolding digits code_table
no_ssector = refl

many_nodes : told Signed F18 0 ≡ codes "2 nodes, 32767 are the most"
unfolding digits code_table
many_nodes = refl

left_over : told Signed N2 8 ≡ codes "SECTORS has 3 bytes left over"
unfolding digits code_table
left_over = refl

two_sided : told Signed N3 1 ≡ codes "two-sided, without a back sidedef, from (16, -16) to (20000, 1)"
unfolding digits code_table
two_sided = refl

no_front : told Signed N4 2 ≡ codes "without a front sidedef"
unfolding digits code_table
no_front = refl

no_length : told Signed N5 1 ≡ codes "without length, from (16, -16) to (20000, 1)"
unfolding digits code_table
no_length = refl

no_segs : told Signed N6 1 ≡ codes "without segs"
unfolding digits code_table
no_segs = refl

no_direction : told Signed N7 0 ≡ codes "without direction, at (3, -4)"
unfolding digits code_table
no_direction = refl

reject : told Signed N8 0 ≡ codes "REJECT has 1 bytes, 0 are wanted"
unfolding digits code_table
reject = refl

blockmap : told Signed N9 0 ≡ codes "BLOCKMAP has 6 words, 8 are wanted"
unfolding digits code_table signed16 unsigned16
blockmap = refl

list_outside : told Signed N10 2 ≡ codes "its list isn't inside BLOCKMAP"
unfolding digits code_table
list_outside = refl

list_endless : told Signed N10 0 ≡ codes "its list has no end"
unfolding digits code_table signed16 unsigned16
list_endless = refl

no_start : told Signed N11 0 ≡ codes "no player 1 start"
unfolding digits code_table
no_start = refl

vertex_outside : told Signed N12 1 ≡ codes "(20000, 1) is outside -16384 to 16383"
unfolding digits code_table
vertex_outside = refl

-- what stands before the message: a block by its column and row, a whole level without an index
block_lead : lead_text (level Signed) (report.Finding N10) 3 ≡ codes "N10 block (1, 1): "
unfolding digits code_table signed16 unsigned16
block_lead = refl

level_lead : lead_text (level Signed) (report.Finding F17) 0 ≡ codes "F17 level: "
unfolding digits code_table
level_lead = refl

lump_lead : lead_text (level Signed) (report.Finding N2) 8 ≡ codes "N2 lump 8: "
unfolding digits code_table
lump_lead = refl

hidden_label : label_text (record { name = codes "MAP01"; entry = 7; hidden = true }) (codes ": ") ≡ codes "MAP01 (entry 7): "
unfolding digits code_table
hidden_label = refl

-- a whole line, of a label with a byte that isn't visible
whole_line : remark_line (codes "a b.wad") (shown (77 ∷ 1 ∷ [])) (level Signed) (remark.Finding (record { code = N7; index = 0 }))
    ≡ codes "a b.wad: M\\x01: N7 node 0: without direction, at (3, -4)" ++ 10 ∷ []
unfolding digits shown_after code_table
whole_line = refl

-- what is told of a warning
abbrev warns : Warning → List ℕ
warns w = lead_text (level Signed) (report.Warning (code_of w)) (number_of w) ++ warning_message (level Signed) w (place_text (warning_place (level Signed) w) [])

unclosed_told : warns (warning.Unclosed 3 0) ≡ codes "W1 sector 3: isn't closed, at (16, -16)"
unfolding digits code_table
unclosed_told = refl

bare_front_told : warns (warning.Bare 1 Front Middle) ≡ codes "W2 linedef 1: no middle texture in front, from (16, -16) to (20000, 1)"
unfolding digits code_table
bare_front_told = refl

bare_back_told : warns (warning.Bare 1 Back Upper) ≡ codes "W2 linedef 1: no upper texture at the back, from (16, -16) to (20000, 1)"
unfolding digits code_table
bare_back_told = refl

bare_lower_told : warns (warning.Bare 0 Front Lower) ≡ codes "W2 linedef 0: no lower texture in front"
unfolding digits code_table
bare_lower_told = refl

void_told : warns (warning.InVoid 12) ≡ codes "W3 thing 12: stands in the void"
unfolding digits code_table
void_told = refl

untagged_told : warns (warning.Untagged 1) ≡ codes "W4 linedef 1: no sector has tag 0, from (16, -16) to (20000, 1)"
unfolding digits code_table
untagged_told = refl

mismatched_told : warns (warning.Mismatched 0 4 2) ≡ codes "W5 ssector 0: its segs face sectors 4 and 2, at (20000, 1)"
unfolding digits code_table
mismatched_told = refl

twin_told : warns (warning.Twin 1 0) ≡ codes "W6 linedef 1: lies on linedef 0, from (16, -16) to (20000, 1)"
unfolding digits code_table
twin_told = refl

no_start_told : warns (warning.NoStart 3) ≡ codes "W7 level: no player 3 start"
unfolding digits code_table
no_start_told = refl

few_starts_told : warns (warning.FewStarts 2) ≡ codes "W8 level: 2 deathmatch starts"
unfolding digits code_table
few_starts_told = refl

unknown_texture_told : warns (warning.UnknownTexture 1 Upper) ≡ codes "W9 sidedef 1: upper texture FLAT isn't there, of linedef 1"
unfolding digits code_table
unknown_texture_told = refl

empty_texture_told : texture_text Middle (missing_text (replicate 8 0) []) ≡ codes "middle texture (empty) isn't there"
empty_texture_told = refl

unknown_flat_told : unknown_flat_text (record (level Signed) { sectors = rows (sector ∷ []) }) 0 Ceiling [] ≡ codes "ceiling flat FLAT isn't there"
unknown_flat_told = refl

unknown_thing_told : unknown_thing_text (record (level Signed) { things = rows (thing ∷ []) }) 0 [] ≡ codes "type 32000 is none of the game's"
unfolding digits code_table
unknown_thing_told = refl

-- what is told of what the game does: of a linedef with a special and a tag, of a sector with that special, and of a thing of that kind
abbrev acting : ℤ → ℤ → Level
acting special tag = record (level Signed) {
  linedefs = rows (record { v1 = pos 0; v2 = pos 1; flags = pos 1; special = special; tag = tag; side0 = pos 0; side1 = negsuc 0 } ∷ []);
  sectors = rows (record sector { special = special } ∷ []);
  things = rows (record thing { kind = special } ∷ []);
}

abbrev does : ℤ → ℤ → GameWarning → List ℕ
does special tag w =
    let acts = acting special tag in
    lead_text acts (report.Warning (code_of (warning.Game w))) (number_of (warning.Game w))
    ++ warning_message acts (warning.Game w) (place_text (warning_place acts (warning.Game w)) [])

abbrev in_skills : Bool → Bool → Bool → Skills
in_skills easy medium hard = record { easy = easy; medium = medium; hard = hard }

abbrev line_place : List ℕ
line_place = codes ", from (16, -16) to (20000, 1)"

unknown_special_told : does (pos 142) (pos 0) (game.UnknownSpecial 0) ≡ codes "W14 linedef 0: special 142 is none of the game's" ++ line_place
unfolding digits code_table
unknown_special_told = refl

unknown_special_below_told : does (negsuc 0) (pos 0) (game.UnknownSpecial 0) ≡ codes "W14 linedef 0: special -1 is none of the game's" ++ line_place
unfolding digits code_table
unknown_special_below_told = refl

zero_tag_told : does (pos 23) (pos 0) (game.ZeroTag 0 1) ≡ codes "W15 linedef 0: special 23 with tag 0, which 1 sectors have" ++ line_place
unfolding digits code_table
zero_tag_told = refl

no_back_told : does (pos 36) (pos 3) (game.NeverCrossed 0 NoBack) ≡ codes "W16 linedef 0: special 36 can't be crossed: it has no back sidedef" ++ line_place
unfolding digits code_table
no_back_told = refl

lets_none_told : does (pos 36) (pos 3) (game.NeverCrossed 0 LetsNone) ≡ codes "W16 linedef 0: special 36 can't be crossed: it lets none through" ++ line_place
unfolding digits code_table
lets_none_told = refl

no_destination_told : does (pos 97) (pos 3) (game.NoDestination 0) ≡ codes "W16 linedef 0: special 97 has no destination: no sector with tag 3 has a thing of type 14" ++ line_place
unfolding digits code_table
no_destination_told = refl

one_sided_door_told : does (pos 27) (pos 0) (game.OneSidedDoor 0) ≡ codes "W17 linedef 0: special 27 without a back sidedef: its use ends the game" ++ line_place
unfolding digits code_table
one_sided_door_told = refl

platforms_told : does (pos 21) (pos 5) (game.ManyPlatforms 0 31) ≡ codes "W17 linedef 0: special 21 starts 31 platforms, 30 are the most: it ends the game" ++ line_place
unfolding digits code_table
platforms_told = refl

ceilings_told : does (pos 41) (pos 5) (game.ManyCeilings 0 31) ≡ codes "W17 linedef 0: special 41 starts 31 ceilings, 30 are the most" ++ line_place
unfolding digits code_table
ceilings_told = refl

no_line_told : does (pos 9) (pos 6) (game.Harmful 0 (NoLine 1)) ≡ codes "W17 linedef 0: special 9: sector 1 has no linedef: its use ends the game" ++ line_place
unfolding digits code_table
no_line_told = refl

no_ring_told : does (pos 9) (pos 6) (game.Harmful 0 (NoRing 5 1)) ≡ codes "W17 linedef 0: special 9: linedef 5, the first of sector 1, has no other side: its use ends the game" ++ line_place
unfolding digits code_table
no_ring_told = refl

open_ring_told : does (pos 9) (pos 6) (game.Harmful 0 (OpenRing 5 2)) ≡ codes "W17 linedef 0: special 9: linedef 5 of sector 2 has no back sidedef: its use ends the game" ++ line_place
unfolding digits code_table
open_ring_told = refl

neighbours_told : does (pos 18) (pos 6) (game.Harmful 0 (ManyNeighbours 1 21)) ≡ codes "W17 linedef 0: special 18: sector 1 has 21 higher neighbours, 20 are the most" ++ line_place
unfolding digits code_table
neighbours_told = refl

no_neighbour_told : does (pos 37) (pos 9) (game.Harmful 0 (NoNeighbour 1 (negsuc 7))) ≡ codes "W17 linedef 0: special 37: sector 1 finds no neighbour at -8, its new special is what memory held" ++ line_place
unfolding digits code_table
no_neighbour_told = refl

deadly_floor_told : does (pos 15) (pos 0) (game.DeadlyFloor 0) ≡ codes "W18 sector 0: special 15: a player on its floor ends the game"
unfolding digits code_table
deadly_floor_told = refl

no_exit_told : does (pos 0) (pos 0) (game.NoExit) ≡ codes "W19 level: no exit"
unfolding digits code_table
no_exit_told = refl

locked_told : does (pos 0) (pos 0) (game.Locked Blue 2 (in_skills true true false)) ≡ codes "W19 level: 2 linedefs want a blue key, which isn't there in easy, medium"
unfolding digits code_table
locked_told = refl

ends_things_told : does (pos 64) (pos 0) (game.EndsThings 0 2) ≡ codes "W21 thing 0: type 64 ends the reading of things, 2 follow, at (8, 8)"
unfolding digits code_table
ends_things_told = refl

in_no_skill_told : does (pos 2001) (pos 0) (game.InNoSkill 0) ≡ codes "W21 thing 0: appears in no skill, at (8, 8)"
unfolding digits code_table
in_no_skill_told = refl

no_target_told : does (pos 89) (pos 0) (game.NoTarget 0 (in_skills false true false)) ≡ codes "W21 thing 0: has no target (type 87) in medium: its shot ends the game, at (8, 8)"
unfolding digits code_table
no_target_told = refl

targets_told : does (pos 89) (pos 0) (game.ManyTargets 0 (in_skills true false false)) ≡ codes "W21 thing 0: has more than 32 targets in easy: its shot ends the game, at (8, 8)"
unfolding digits code_table
targets_told = refl

scrolling_told : does (pos 0) (pos 0) (game.ManyScrolling 65) ≡ codes "W22 level: 65 scrolling linedefs, 64 are the most"
unfolding digits code_table
scrolling_told = refl

perpetual_told : does (pos 0) (pos 0) (game.ManyPerpetual 31) ≡ codes "W22 level: 31 perpetual platforms, 30 are the most"
unfolding digits code_table
perpetual_told = refl

starts_told : does (pos 0) (pos 0) (game.ManyStarts 11) ≡ codes "W22 level: 11 deathmatch starts, 10 are the most"
unfolding digits code_table
starts_told = refl

save_told : does (pos 0) (pos 0) (game.LongSave 180281) ≡ codes "W22 level: 180281 bytes to save at its start, 180224 are the most"
unfolding digits code_table
save_told = refl

lacking_told : does (pos 0) (pos 0) (game.LacksPatch (padded (codes "BIGDOOR"))) ≡ codes "W22 level: texture BIGDOOR lacks a patch: the game doesn't start"
unfolding digits code_table
lacking_told = refl

misplaced_told : does (pos 0) (pos 0) (game.MisplacedFlat 0 Floor) ≡ codes "W25 sector 0: floor flat FLAT isn't between F_START and F_END"
unfolding digits code_table
misplaced_told = refl

-- the skills in which something holds
skills_told : skills_text (in_skills true true true) [] ≡ codes "easy, medium, hard"
skills_told = refl

other_skills_told : skills_text (in_skills true false true) [] ≡ codes "easy, hard"
other_skills_told = refl

last_skills_told : skills_text (in_skills false true true) [] ≡ codes "medium, hard"
last_skills_told = refl

-- what tells a level that isn't judged
udmf_told : format_text Udmf ≡ codes "udmf: not read\n"
udmf_told = refl

incomplete_told : format_text (Incomplete 10) ≡ codes "incomplete: no BLOCKMAP where it belongs\n"
incomplete_told = refl

hexen_told : format_text Hexen ≡ codes "hexen: not read\n"
hexen_told = refl

outside_told : format_text (Outside 7) ≡ codes "outside: NODES\n"
outside_told = refl

extended_told : format_text (Extended (codes "ZNOD") None) ≡ codes "extended nodes ZNOD: not read\n"
extended_told = refl

cut_told : format_text (Extended (codes "XGLN") (Some (broken.EndsWithin lump.Ssectors part.Segs)))
    ≡ codes "extended nodes XGLN: SSECTORS ends within its segs\n"
cut_told = refl

counted_told : format_text (Extended (codes "XNOD") (Some (broken.Segs 4294967298 2)))
    ≡ codes "extended nodes XNOD: its ssectors have 4294967298 segs, 2 are there\n"
unfolding digits
counted_told = refl

made_told : format_text (Extended (codes "XNOD") (Some (broken.Vertexes 3 2)))
    ≡ codes "extended nodes XNOD: made for 3 vertexes, VERTEXES has 2\n"
unfolding digits
made_told = refl

-- one name to unfold for strings and numbers
unfoldable strings : Unit {0}
unfolding digits utf8_lossy utf8_valid_len utf8_error_len is_utf8 chars encode
strings = tt

-- strings: what has to be escaped, and what is no UTF-8
escaped_string : json_string (34 ∷ 92 ∷ 10 ∷ 31 ∷ 47 ∷ 127 ∷ []) ≡ codes "\"\\\"\\\\\\u000a\\u001f/" ++ 127 ∷ 34 ∷ []
unfolding strings
escaped_string = refl

replaced_string : json_string (195 ∷ 169 ∷ 255 ∷ 65 ∷ []) ≡ 34 ∷ 195 ∷ 169 ∷ 239 ∷ 191 ∷ 189 ∷ 65 ∷ 34 ∷ []
unfolding strings
replaced_string = refl

-- those of levels that aren't judged
udmf_object : level_members (codes "a.wad") (codes "MAP01") 3 format.Udmf ++ other_members Udmf
    ≡ codes "{\"file\":\"a.wad\",\"level\":\"MAP01\",\"entry\":3,\"format\":\"udmf\"}\n"
unfolding strings
udmf_object = refl

incomplete_object : level_members (codes "a.wad") (codes "MAP01") 12 (format.Incomplete 10) ++ other_members (Incomplete 10)
    ≡ codes "{\"file\":\"a.wad\",\"level\":\"MAP01\",\"entry\":12,\"format\":\"incomplete\",\"lump\":\"BLOCKMAP\"}\n"
unfolding strings
incomplete_object = refl

extended_object : level_members (codes "a.wad") (codes "MAP01") 0 (format.Extended (codes "ZNOD")) ++ other_members (Extended (codes "ZNOD") None)
    ≡ codes "{\"file\":\"a.wad\",\"level\":\"MAP01\",\"entry\":0,\"format\":\"extended\",\"tag\":\"ZNOD\"}\n"
unfolding strings
extended_object = refl

broken_object : level_members (codes "a.wad") (codes "MAP01") 0 (format.Extended (codes "XNOD"))
    ++ other_members (Extended (codes "XNOD") (Some (broken.EndsWithin lump.Nodes part.Vertexes)))
    ≡ codes "{\"file\":\"a.wad\",\"level\":\"MAP01\",\"entry\":0,\"format\":\"extended\",\"tag\":\"XNOD\",\"broken\":\"NODES ends within its vertexes\"}\n"
unfolding strings
broken_object = refl

-- a line's end, an escape, a control of eight bits and 127, between letters
path_with_controls : shown_path (97 ∷ 10 ∷ 27 ∷ 91 ∷ 194 ∷ 133 ∷ 127 ∷ 98 ∷ [])
    ≡ codes "a\\x0a\\x1b[\\xc2\\x85\\x7fb"
unfolding shown_after
path_with_controls = refl

-- a backslash, a letter of two bytes and a space of two: none is a control
path_without_controls : shown_path (92 ∷ 195 ∷ 164 ∷ 194 ∷ 160 ∷ []) ≡ 92 ∷ 195 ∷ 164 ∷ 194 ∷ 160 ∷ []
unfolding shown_after
path_without_controls = refl
