-- Which codes are ignored (ours).
use Rattle.std.specs.Prelude.{◌≡◌, ℕ, Bool, false, List, Option, if◌then◌else◌}
use Rattle.level_codes.specs.Codes.{is_fault_code}
use Rattle.level_codes.specs.Sets.{has}
use Rattle.level_codes.specs.declared.code.ReportCode.{ReportCode}
use Rattle.level_codes.specs.declared.code.ReportCode.TheVariants as report
use Rattle.level_codes.specs.declared.code.WarningCode.{WarningCode}
use Rattle.map_audit.specs.Findings.{AuditHolds}
use Rattle.map_level.specs.Level.{Level}
use Rattle.map_level.specs.declared.finding.Code.{Code}
use Rattle.map_warnings.specs.Holds.{IsWarning}
use Rattle.map_warnings.specs.declared.warning.Warning.{Warning}
use Rattle.wad_dir.specs.Wad.{Wad}
use Rattle.level_codes.specs.declared.set.CodeSet.{CodeSet}

-- whether what a code tells is ignored: never a fault
abbrev pub ignores : CodeSet → ReportCode → Bool
ignores ignored code = if is_fault_code code then false else has ignored code

-- a warning of a code holds of a level, and the code isn't ignored; the level's textures and flats are those of some files, if these are known
abbrev pub WarnsUnlessIgnored : CodeSet → Option (List Wad) → Level → WarningCode → Warning → Type 0
WarnsUnlessIgnored ignored files level code w = (ignores ignored (report.Warning code) ≡ false) × IsWarning files level code w

-- a finding holds of a level, and its code isn't ignored
abbrev pub HoldsUnlessIgnored : CodeSet → Level → Code → ℕ → Type 0
HoldsUnlessIgnored ignored level code i = (ignores ignored (report.Finding code) ≡ false) × AuditHolds level code i
