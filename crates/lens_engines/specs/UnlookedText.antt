-- The line, or the object, that tells which warnings weren't looked for at a level, and for which faults (ours).
use Rattle.std.specs.Prelude.{ℕ, true, false, List, [], ◌++◌, codes, if◌then◌else◌}
use Rattle.level_codes.specs.Sets.{codes_between, common_codes, counted_codes, no_codes, unmet_codes}
use Rattle.level_codes.specs.declared.code.ReportCode.TheVariants as report
use Rattle.level_codes.specs.declared.kind.Offer.{Offer}
use Rattle.level_codes.specs.declared.set.CodeSet.{CodeSet}
use Rattle.map_level.specs.declared.finding.Code.{Code}
use Rattle.map_level.specs.declared.finding.Code.TheVariants.{F1, F3, F9, F18}
use Rattle.lens_texts.specs.Head.{Head, by_form}
use Rattle.lens_texts.specs.RemarkLine.{level_line}
use Rattle.lens_texts.specs.RemarkObject.{object_front}
use Rattle.lens_engines.specs.Unlooked.{has_any, names_text, unlooked_member}

-- the codes of findings from one to another that hold, by how many there are of each code
abbrev pub held : Code → Code → List ℕ → CodeSet
held first last counts = common_codes (counted_codes counts) (codes_between (report.Finding first) (report.Finding last))

-- those codes that want a sound level, of some that weren't looked for
abbrev pub all_but_soundness : Offer
all_but_soundness = record { references = true; soundness = false; textures = true; flats = true; flat_ends = true }

abbrev pub unsound_codes : CodeSet → CodeSet
unsound_codes unlooked = common_codes (unmet_codes all_but_soundness) unlooked

-- `warnings[ <codes>] not looked for: <codes>`: all warnings, or these, for the faults of these codes
abbrev pub causes_text : CodeSet → List ℕ
causes_text causes = codes " not looked for:" ++ (names_text (codes " ") [] causes ++ codes "\n")

abbrev pub cause_text : CodeSet → CodeSet → List ℕ
cause_text named causes = codes "warnings" ++ (names_text (codes " ") [] named ++ causes_text causes)

-- the object has all codes that weren't looked for
abbrev pub unlooked_object : Head → CodeSet → List ℕ
unlooked_object head unlooked = object_front head.path head.label ++ (unlooked_member unlooked ++ codes "}\n")

abbrev pub told_unlooked : Head → CodeSet → CodeSet → CodeSet → List ℕ
told_unlooked head unlooked named causes = by_form head.form (level_line head.path head.label (cause_text named causes)) (unlooked_object head unlooked)

-- Where a fault F3 to F9 holds no warning is looked for. In another level with a fault those that want a sound level aren't. What no file lists is told
-- apart, once in a run.
abbrev pub unlooked_part : Head → List ℕ → CodeSet → List ℕ
unlooked_part head counts unlooked =
    if has_any (held F3 F9 counts)
    then (if has_any unlooked then told_unlooked head unlooked no_codes (held F3 F9 counts) else [])
    else (if has_any (unsound_codes unlooked) then told_unlooked head unlooked (unsound_codes unlooked) (held F1 F18 counts) else [])
