-- What is counted over levels, files and a run (ours).
use Rattle.std.specs.Prelude.{Bool, ◌&&◌, nat_lt, ℕ, ◌+◌, ◌-◌, ◌^◌, ◌==◌, List, ◌++◌, Some, None, codes, min, if◌then◌else◌}
use Rattle.std.specs.Fmt.{decimal}
use Rattle.lens_engines.specs.Counts.{fault_total, note_total}
use Rattle.lens_engines.specs.ReportCounts.{warning_total}
use Rattle.level_codes.specs.Sets.{no_codes, with_codes}
use Rattle.level_codes.specs.declared.set.CodeSet.{CodeSet}
use Rattle.lens_engines.specs.Unlisted.{none_unlisted, unlisted_with}
use Rattle.lens_engines.specs.Unlooked.{has_any}
use Rattle.lens_engines.specs.declared.unlisted.Unlisted.{Unlisted}
use Rattle.lens_engines.specs.declared.judging.Warnings.{Warnings}
use Rattle.lens_engines.specs.declared.judging.Warnings.TheVariants.{Unasked, Told}
use Rattle.lens_engines.specs.declared.surveyed.Surveyed.{Surveyed}
use Rattle.lens_engines.specs.declared.surveyed.Surveyed.TheVariants as surveyed
use Rattle.lens_engines.specs.declared.totals.Totals.{Totals}
use Rattle.lens_engines.specs.declared.verdict.Verdict.{Verdict}
use Rattle.lens_engines.specs.declared.verdict.Verdict.TheVariants.{Clean, Unjudged, Faulty}
use Rattle.lens_texts.specs.declared.unread.Unread.{Unread}
use Rattle.lens_texts.specs.declared.unread.Unread.TheVariants.{Udmf, Incomplete, Hexen, Outside, Extended}

-- of no level
abbrev pub no_totals : Totals
no_totals = record { levels = 0; faults = 0; notes = 0; warnings = 0; failing = 0; broken = 0; unread = 0; partly = 0; unlooked = no_codes; unlisted = none_unlisted }

-- of a judged level, by how many there are of each code, whether one is as grave as a fault, and what wasn't looked for
abbrev pub judged_totals : List ℕ → Bool → CodeSet → Unlisted → Totals
judged_totals counts fails unlooked unlisted = record {
  levels = 1;
  faults = fault_total counts;
  notes = note_total counts;
  warnings = warning_total counts;
  failing = if fails then 1 else 0;
  broken = 0;
  unread = 0;
  partly = if has_any unlooked then 1 else 0;
  unlooked = unlooked;
  unlisted = unlisted;
}

-- of a level that isn't judged: one that lacks a lump or has broken nodes is broken, and the others aren't read
abbrev pub format_totals : Unread → Totals
format_totals Udmf = record { levels = 1; faults = 0; notes = 0; warnings = 0; failing = 0; broken = 0; unread = 1; partly = 0; unlooked = no_codes; unlisted = none_unlisted }
format_totals (Incomplete k) = record { levels = 1; faults = 0; notes = 0; warnings = 0; failing = 0; broken = 1; unread = 0; partly = 0; unlooked = no_codes; unlisted = none_unlisted }
format_totals Hexen = record { levels = 1; faults = 0; notes = 0; warnings = 0; failing = 0; broken = 0; unread = 1; partly = 0; unlooked = no_codes; unlisted = none_unlisted }
format_totals (Outside k) = record { levels = 1; faults = 0; notes = 0; warnings = 0; failing = 0; broken = 1; unread = 0; partly = 0; unlooked = no_codes; unlisted = none_unlisted }
format_totals (Extended tag None) = record { levels = 1; faults = 0; notes = 0; warnings = 0; failing = 0; broken = 0; unread = 1; partly = 0; unlooked = no_codes; unlisted = none_unlisted }
format_totals (Extended tag (Some why)) = record { levels = 1; faults = 0; notes = 0; warnings = 0; failing = 0; broken = 1; unread = 0; partly = 0; unlooked = no_codes; unlisted = none_unlisted }

-- what a level adds
abbrev pub totals_of : Surveyed → Totals
totals_of (surveyed.Judged counted) = judged_totals counted.counts counted.fails counted.unlooked counted.unlisted
totals_of (surveyed.Unjudged unjudged) = format_totals unjudged.unread

-- a sum in 64 bits, which stops at the greatest number
abbrev pub capped : ℕ → ℕ → ℕ
capped a b = min (a + b) (2 ^ 64 - 1)

-- both together
abbrev pub totals_with : Totals → Totals → Totals
totals_with a b = record {
  levels = capped a.levels b.levels;
  faults = capped a.faults b.faults;
  notes = capped a.notes b.notes;
  warnings = capped a.warnings b.warnings;
  failing = capped a.failing b.failing;
  broken = capped a.broken b.broken;
  unread = capped a.unread b.unread;
  partly = capped a.partly b.partly;
  unlooked = with_codes a.unlooked b.unlooked;
  unlisted = unlisted_with a.unlisted b.unlisted;
}

-- the verdict by totals
abbrev pub verdict_of_totals : Totals → Verdict
verdict_of_totals totals =
    if (totals.faults == 0 && totals.failing == 0) && totals.broken == 0 then (if totals.unread == 0 then Clean else Unjudged) else Faulty

-- `N levels in M files: F faults, K notes, U not judged`, with `V warnings, ` where they are asked for, and `, L with warnings not looked for` where there are
-- such levels
abbrev pub levels_text : ℕ → Totals → List ℕ
levels_text files totals = decimal totals.levels ++ (codes " levels in " ++ (decimal files ++ codes " files: "))

abbrev pub warnings_text : Warnings → ℕ → List ℕ → List ℕ
warnings_text Unasked count rest = rest
warnings_text Told count rest = decimal count ++ (codes " warnings, " ++ rest)

abbrev pub partly_text : ℕ → List ℕ
partly_text partly = if nat_lt 0 partly then codes ", " ++ (decimal partly ++ codes " with warnings not looked for\n") else codes "\n"

abbrev pub found_text : Warnings → Totals → List ℕ
found_text warnings totals =
    decimal totals.faults ++ (codes " faults, " ++ (decimal totals.notes ++ (codes " notes, "
    ++ warnings_text warnings totals.warnings (decimal (capped totals.broken totals.unread) ++ codes " not judged"))))

abbrev pub totals_line : ℕ → Warnings → Totals → List ℕ
totals_line files warnings totals = (levels_text files totals ++ found_text warnings totals) ++ partly_text totals.partly
