-- A remark of a report (ours): a finding or a warning, with its code, the number of what it is of, what it says, and where it lies.
use Rattle.std.specs.Prelude.{ℕ, List, Option}
use Rattle.level_codes.specs.declared.code.ReportCode.{ReportCode}
use Rattle.level_codes.specs.declared.code.ReportCode.TheVariants as report
use Rattle.map_level.specs.Level.{Level}
use Rattle.map_warnings.specs.Warnings.{code_of, number_of}
use Rattle.lens_texts.specs.Message.{message}
use Rattle.lens_texts.specs.Place.{ends_of, place_of}
use Rattle.lens_texts.specs.WarningMessage.{warning_message, warning_place}
use Rattle.lens_texts.specs.declared.place.MapPlace.{MapPlace}
use Rattle.lens_texts.specs.declared.place.PlaceEnds.{PlaceEnds}
use Rattle.lens_texts.specs.declared.remark.Remark.{Remark}
use Rattle.lens_texts.specs.declared.remark.Remark.TheVariants.{Finding, Warning}

abbrev pub remark_code : Remark → ReportCode
remark_code (Finding f) = report.Finding f.code
remark_code (Warning w) = report.Warning (code_of w)

-- the number of the record, the lump or the block; 0 for what can hold only once
abbrev pub remark_index : Remark → ℕ
remark_index (Finding f) = f.index
remark_index (Warning w) = number_of w

-- what it says, before other bytes
abbrev pub remark_message : Level → Remark → List ℕ → List ℕ
remark_message level (Finding f) rest = message level f.code f.index rest
remark_message level (Warning w) rest = warning_message level w rest

abbrev pub remark_place : Level → Remark → MapPlace
remark_place level (Finding f) = place_of level f.code f.index
remark_place level (Warning w) = warning_place level w

-- the two ends of where it lies
abbrev pub remark_ends : Level → Remark → Option PlaceEnds
remark_ends level remark = ends_of level (remark_place level remark)
