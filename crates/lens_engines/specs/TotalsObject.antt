-- The totals as an object of JSON, and in the form that is asked for (ours).
use Rattle.std.specs.Prelude.{ℕ, nat_lt, List, [], ◌++◌, codes, if◌then◌else◌}
use Rattle.std.specs.Fmt.{decimal}
use Rattle.lens_texts.specs.Head.{by_form}
use Rattle.lens_texts.specs.LevelObject.{number_member}
use Rattle.lens_engines.specs.Totals.{capped, totals_line}
use Rattle.lens_engines.specs.Unlooked.{unlooked_member}
use Rattle.lens_texts.specs.declared.form.Form.{Form}
use Rattle.level_codes.specs.declared.set.CodeSet.{CodeSet}
use Rattle.lens_engines.specs.declared.judging.Warnings.{Warnings}
use Rattle.lens_engines.specs.declared.judging.Warnings.TheVariants.{Unasked, Told}
use Rattle.lens_engines.specs.declared.totals.Totals.{Totals}

-- `{"levels":N,"files":M`
abbrev pub levels_members : ℕ → Totals → List ℕ
levels_members files totals = codes "{\"levels\":" ++ (decimal totals.levels ++ number_member (codes "files") files)

abbrev pub warnings_number : Warnings → ℕ → List ℕ → List ℕ
warnings_number Unasked count rest = rest
warnings_number Told count rest = number_member (codes "warnings") count ++ rest

abbrev pub found_numbers : Warnings → Totals → List ℕ
found_numbers warnings totals =
    number_member (codes "faults") totals.faults ++ (number_member (codes "notes") totals.notes
    ++ warnings_number warnings totals.warnings (number_member (codes "not_judged") (capped totals.broken totals.unread)))

-- in how many levels warnings weren't looked for, and which, where there are such
abbrev pub partly_number : ℕ → List ℕ
partly_number partly = if nat_lt 0 partly then number_member (codes "unlooked_levels") partly else []

abbrev pub partly_members : ℕ → CodeSet → List ℕ
partly_members partly unlooked = partly_number partly ++ (unlooked_member unlooked ++ codes "}\n")

abbrev pub totals_object : ℕ → Warnings → Totals → List ℕ
totals_object files warnings totals =
    (levels_members files totals ++ found_numbers warnings totals) ++ partly_members totals.partly totals.unlooked

-- the totals in the form that is asked for
abbrev pub totals_text : Form → ℕ → Warnings → Totals → List ℕ
totals_text form files warnings totals = by_form form (totals_line files warnings totals) (totals_object files warnings totals)
