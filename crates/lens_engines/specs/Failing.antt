-- What is as grave as a fault (ours).
use Rattle.std.specs.Prelude.{◌≡◌, ◌⊎◌, ℕ, ◌<◌, true, List, Contains}
use Rattle.level_codes.specs.Codes.{ends_game}
use Rattle.level_codes.specs.Sets.{has}
use Rattle.level_codes.specs.declared.code.ReportCode.{ReportCode}
use Rattle.level_codes.specs.declared.code.ReportCode.TheVariants.{Finding}
use Rattle.level_codes.specs.declared.set.CodeSet.{CodeSet}
use Rattle.map_level.specs.declared.finding.Code.{Code}
use Rattle.lens_engines.specs.ReportCounts.{count_of}
use Rattle.lens_engines.specs.Warned.{Warned}
use Rattle.lens_engines.specs.declared.judging.Judging.{Judging}

-- a code is one of these, and is told of a level, by how many are told of each code
pub record IsFailing (failing : CodeSet) (counts : List ℕ) (code : ReportCode) : Type 0 where
  pub asked : has failing code ≡ true
  pub told : 0 < count_of counts code

-- the released game ends at a code of findings that is told of a level, or at one of the warnings that are
pub record IsEndingCode (counts : List ℕ) (code : Code) : Type 0 where
  pub ends : ends_game (Finding code) ≡ true
  pub told : 0 < count_of counts (Finding code)

abbrev pub HasEndingCode : List ℕ → Type 0
HasEndingCode counts = (code : Code) × IsEndingCode counts code

abbrev pub HasEndingWarning : List Warned → Type 0
HasEndingWarning warned = (one : Warned) × Contains warned one × (one.ends ≡ true)

-- a finding or a warning is told of a level whose code is as grave as a fault, or at which the released game ends, where that is so grave; none of an ignored
-- code is told
abbrev pub HasFailing : Judging → List ℕ → List Warned → Type 0
HasFailing judging counts warned =
    ((code : ReportCode) × IsFailing judging.failing counts code)
    ⊎ ((judging.game_ends ≡ true) × (HasEndingCode counts ⊎ HasEndingWarning warned))
