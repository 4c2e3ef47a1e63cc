-- The parts of a level's report, the totals, and the objects of a survey, computed on small levels: each is what stands here.
use Rattle.std.proofs.Common.{◌≡◌, ℕ, List, pos, negsuc, true, false, [], ◌∷◌, ◌++◌, replicate, refl}
use lib.Utf8.{encode}
use Rattle.std.specs.Fmt.{digits}
use Rattle.std.specs.Prelude.{codes}
use Rattle.std.specs.Str.{chars, is_utf8}
use Rattle.std.specs.Str.Lossy.{utf8_error_len, utf8_lossy, utf8_valid_len}
use Rattle.level_starts.specs.declared.format.Format.TheVariants.{Doom}
use Rattle.level_codes.specs.Codes.{code_table}
use Rattle.level_codes.specs.declared.code.ReportCode.TheVariants.{Warning}
use Rattle.level_codes.specs.declared.code.WarningCode.TheVariants.{W2, W9, W10}
use Rattle.map_level.specs.Level.{Level}
use Rattle.map_level.specs.declared.finding.Code.TheVariants.{N4, N6}
use Rattle.map_level.specs.declared.reading.Reading.TheVariants.{Signed}
use Rattle.wad_dir.specs.declared.wad.WadFault.TheVariants as wad
use Rattle.lens_engines.specs.LevelLines.{code_part, wide_part}
use Rattle.lens_engines.specs.Objects.{doom_members, refused_object}
use Rattle.lens_texts.specs.LevelObject.{level_members}
use Rattle.lens_texts.specs.LevelText.{left_text, remark_text}
use Rattle.lens_texts.specs.ShownPath.{shown_after}
use Rattle.lens_engines.specs.Tables.{tables_of}
use Rattle.lens_engines.specs.Totals.{totals_line}
use Rattle.lens_engines.specs.TotalsObject.{totals_object}
use Rattle.level_codes.specs.Sets.{group_codes, is_between, is_unmet, no_codes, set_of}
use Rattle.level_codes.specs.declared.set.Group.TheVariants.{Warnings}
use Rattle.lens_engines.specs.UnlookedText.{all_but_soundness, unlooked_part}
use Rattle.lens_engines.specs.Unlisted.{none_unlisted, unlisted_note}
use Rattle.lens_engines.specs.WarnedText.{more_text}
use Rattle.lens_engines.specs.declared.judging.Warnings.TheVariants.{Unasked, Told}
use Rattle.lens_engines.specs.declared.object.FileRefusal.TheVariants.{TooLarge, NoWad}
use Rattle.lens_engines.specs.declared.totals.Totals.{Totals}
use Rattle.lens_texts.proofs.CaseLevels.{rows, line, name, sector, level, lines_of}

-- of three findings one is shown, and all are where the number is 0 or as great
one_of_three : code_part (remark_text (lines_of (codes "a") (codes "M")) (level Signed)) (left_text (lines_of (codes "a") (codes "M"))) 1 N4 (0 ∷ 1 ∷ 2 ∷ [])
    ≡ codes "a: M: N4 linedef 0: without a front sidedef" ++ (10 ∷ codes "a: M: N4: 2 more" ++ 10 ∷ [])
unfolding digits code_table shown_after
one_of_three = refl

two_of_two : code_part (remark_text (lines_of (codes "a") (codes "M")) (level Signed)) (left_text (lines_of (codes "a") (codes "M"))) 2 N6 (0 ∷ 1 ∷ [])
    ≡ codes "a: M: N6 ssector 0: without segs, at (20000, 1)" ++ (10 ∷ codes "a: M: N6 ssector 1: without segs" ++ 10 ∷ [])
unfolding digits code_table shown_after
two_of_two = refl

warnings_left_told : more_text (left_text (lines_of (codes "a.wad") name)) (Warning W2) 5 ≡ codes "a.wad: FLAT: W2: 5 more" ++ 10 ∷ []
unfolding digits code_table shown_after
warnings_left_told = refl

sound_wide_told : wide_part (lines_of (codes "a.wad") (codes "E1M1")) true ≡ codes "a.wad: E1M1: sound with --wide\n"
unfolding shown_after
sound_wide_told = refl

not_sound_wide_told : wide_part (lines_of (codes "a.wad") (codes "E1M1")) false ≡ []
not_sound_wide_told = refl

-- the line at the end of a run, whose words stand as they are also behind 1
abbrev totals : Totals
totals = record { levels = 12; faults = 3; notes = 45; warnings = 1; failing = 0; broken = 1; unread = 2; partly = 0; unlooked = no_codes; unlisted = none_unlisted }

totals_told : totals_line 2 Unasked totals ≡ codes "12 levels in 2 files: 3 faults, 45 notes, 3 not judged\n"
unfolding digits code_table
totals_told = refl

totals_with_warnings_told : totals_line 1 Told totals ≡ codes "12 levels in 1 files: 3 faults, 45 notes, 1 warnings, 3 not judged\n"
unfolding digits code_table
totals_with_warnings_told = refl

totals_of_none_told : totals_line 0 Told (record { levels = 0; faults = 0; notes = 0; warnings = 0; failing = 0; broken = 0; unread = 0; partly = 0; unlooked = no_codes; unlisted = none_unlisted })
    ≡ codes "0 levels in 0 files: 0 faults, 0 notes, 0 warnings, 0 not judged\n"
unfolding digits code_table
totals_of_none_told = refl

totals_partly_told : totals_line 1 Told (record totals { partly = 2 })
    ≡ codes "12 levels in 1 files: 3 faults, 45 notes, 1 warnings, 3 not judged, 2 with warnings not looked for\n"
unfolding digits code_table
totals_partly_told = refl

-- F4 and F9 hold, so no warning is looked for; F11 alone, so those that want a sound level aren't
abbrev counts_with : ℕ → ℕ → List ℕ
counts_with f4 f11 = replicate 3 0 ++ (f4 ∷ replicate 4 0 ++ (f4 ∷ 0 ∷ f11 ∷ replicate 44 0))

no_references_told : unlooked_part (lines_of (codes "a.wad") (codes "E1M1")) (counts_with 2 1) (group_codes Warnings)
    ≡ codes "a.wad: E1M1: warnings not looked for: F4, F9\n"
unfolding digits code_table shown_after
no_references_told = refl

unsound_told : unlooked_part (lines_of (codes "a.wad") (codes "E1M1")) (counts_with 0 1) (set_of (is_unmet all_but_soundness))
    ≡ codes "a.wad: E1M1: warnings W3, W5 not looked for: F11\n"
unfolding digits code_table shown_after
unsound_told = refl

all_ignored_told : unlooked_part (lines_of (codes "a.wad") (codes "E1M1")) (counts_with 2 1) no_codes ≡ []
unfolding digits code_table shown_after
all_ignored_told = refl

-- and its object, where neither W9 nor W10 was looked for
totals_object_told : totals_object 1 Told (record totals { partly = 2; unlooked = set_of (is_between (Warning W9) (Warning W10)) })
    ≡ codes "{\"levels\":12,\"files\":1,\"faults\":3,\"notes\":45,\"warnings\":1,\"not_judged\":3,\"unlooked_levels\":2,\"unlooked\":[\"W9\",\"W10\"]}\n"
unfolding digits code_table
totals_object_told = refl

-- what no file lists, told with the codes that go by it: W25 by both ends of the flats
note_told : unlisted_note (record { textures = true; flats = true; flat_start = true; flat_end = true })
    ≡ codes "W9, W10, W25 weren't looked for: no file has TEXTURE1, F_START, F_END; name the game's with --base"
note_told = refl

note_of_an_end_told : unlisted_note (record none_unlisted { flat_end = true }) ≡ codes "W25 weren't looked for: no file has F_END; name the game's with --base"
note_of_an_end_told = refl

-- one name to unfold for strings and numbers
unfoldable strings : Unit {0}
unfolding digits code_table utf8_lossy utf8_valid_len utf8_error_len is_utf8 chars encode
strings = tt

-- the objects of refused files
short_object : refused_object (codes "a.wad") (NoWad wad.Short) ≡ codes "{\"file\":\"a.wad\",\"refused\":\"shorter than a WAD header\"}\n"
unfolding strings
short_object = refl

large_object : refused_object (codes "b") TooLarge ≡ codes "{\"file\":\"b\",\"refused\":\"larger than 268435456 bytes\"}\n"
unfolding strings
large_object = refl

-- that of the sample, and of a level of as many records with a fault, notes and warnings
abbrev sample : Level
sample = record {
  label = 0;
  reading = Signed;
  names = [];
  things = rows (record { x = pos 8; y = pos 8; angle = pos 0; kind = pos 1; options = pos 7 } ∷ []);
  linedefs = rows (line (pos 0) (pos 1) (pos 0) (pos 1) ∷ []);
  sidedefs = rows (record { xoff = pos 0; yoff = pos 0; top = name; bottom = name; middle = name; sector = pos 0 }
      ∷ record { xoff = pos 0; yoff = pos 0; top = name; bottom = name; middle = name; sector = pos 1 } ∷ []);
  vertexes = rows (record { x = pos 0; y = pos 0 } ∷ record { x = pos 0; y = pos 64 } ∷ []);
  segs = rows (record { v1 = pos 0; v2 = pos 1; angle = pos 16384; linedef = pos 0; side = pos 0; offset = pos 0 }
      ∷ record { v1 = pos 1; v2 = pos 0; angle = negsuc 16383; linedef = pos 0; side = pos 1; offset = pos 0 } ∷ []);
  ssectors = rows (record { count = pos 1; first = pos 0 } ∷ record { count = pos 1; first = pos 1 } ∷ []);
  nodes = rows (record { x = pos 0; y = pos 0; dx = pos 0; dy = pos 64; box0 = []; box1 = []; child0 = 32768; child1 = 32769 } ∷ []);
  sectors = rows (sector ∷ sector ∷ []);
  reject = 0 ∷ [];
  blockmap = replicate 16 0;
}

sample_object : level_members (codes "a.wad") (codes "E1M1") 0 Doom
    ++ doom_members (record { tables = tables_of sample; counts = replicate 55 0; warnings = Unasked; fails = false; unlooked = no_codes; unlisted = none_unlisted; drawn = true })
    ≡ codes "{\"file\":\"a.wad\",\"level\":\"E1M1\",\"entry\":0,\"format\":\"doom\",\"things\":1,\"linedefs\":1,\"sidedefs\":2,\"vertexes\":2,\"segs\":2,\"ssectors\":2,\"nodes\":1,\"sectors\":2,"
    ++ codes "\"reject\":1,\"blockmap\":16,\"sound\":true,\"faults\":0,\"notes\":0,\"findings\":{}}\n"
unfolding strings
sample_object = refl

-- F9 twice, N3 once and N12 eleven times, of a code of warnings 7, and W10 wasn't looked for
found_object : doom_members (record {
  tables = tables_of sample;
  counts = replicate 8 0 ++ (2 ∷ replicate 11 0 ++ (1 ∷ replicate 8 0 ++ (11 ∷ replicate 3 0 ++ (7 ∷ replicate 7 0))));
  warnings = Told;
  fails = false;
  unlooked = set_of (is_between (Warning W10) (Warning W10));
  unlisted = none_unlisted;
  drawn = true;
})
    ≡ codes ",\"things\":1,\"linedefs\":1,\"sidedefs\":2,\"vertexes\":2,\"segs\":2,\"ssectors\":2,\"nodes\":1,\"sectors\":2,"
    ++ codes "\"reject\":1,\"blockmap\":16,\"sound\":false,\"faults\":2,\"notes\":12,\"findings\":{\"F9\":2,\"N3\":1,\"N12\":11},\"warnings\":{\"W4\":7},\"unlooked\":[\"W10\"]}\n"
unfolding digits code_table
found_object = refl
