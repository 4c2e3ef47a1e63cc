-- Which warnings weren't looked for at a level, though they were asked for (ours).
use Rattle.std.specs.Prelude.{◌≡◌, ◌↔◌, Bool, true, false, ℕ, not, nat_eq, List, [], ◌++◌, Option, codes, filter, length, map, if◌then◌else◌}
use Rattle.std.specs.List.{join_with_byte}
use Rattle.level_codes.specs.Codes.{code_name, report_order}
use Rattle.level_codes.specs.Sets.{has, no_codes}
use Rattle.level_codes.specs.declared.code.ReportCode.{ReportCode}
use Rattle.level_codes.specs.declared.code.ReportCode.TheVariants as report
use Rattle.level_codes.specs.declared.code.WarningCode.{WarningCode}
use Rattle.level_codes.specs.declared.set.CodeSet.{CodeSet}
use Rattle.map_level.specs.Level.{Level}
use Rattle.map_level.specs.declared.finding.Code.{Code}
use Rattle.map_warnings.specs.Holds.{IsLookedFor}
use Rattle.wad_dir.specs.Wad.{Wad}
use Rattle.lens_engines.specs.Ignored.{ignores}
use Rattle.lens_engines.specs.declared.judging.Judging.{Judging}
use Rattle.lens_engines.specs.declared.judging.Warnings.{Warnings}
use Rattle.lens_engines.specs.declared.judging.Warnings.TheVariants.{Unasked, Told}

-- a code of warnings isn't ignored, and isn't looked for: the level, or the files in which its textures and flats are looked up, lack what the code wants
pub record IsUnlooked (ignored : CodeSet) (files : Option (List Wad)) (level : Level) (code : WarningCode) : Type 0 where
  pub kept : ignores ignored (report.Warning code) ≡ false
  pub lacks : ¬ IsLookedFor files level code

-- a set has just these codes
pub record AreUnlooked (ignored : CodeSet) (files : Option (List Wad)) (level : Level) (set : CodeSet) : Type 0 where
  pub findings : (code : Code) → has set (report.Finding code) ≡ false
  pub warnings : (code : WarningCode) → (has set (report.Warning code) ≡ true) ↔ IsUnlooked ignored files level code

-- those of a level, if warnings are asked for: else none
abbrev pub AreUnlookedBy : Warnings → CodeSet → Option (List Wad) → Level → CodeSet → Type 0
AreUnlookedBy Unasked ignored files level set = set ≡ no_codes
AreUnlookedBy Told ignored files level set = AreUnlooked ignored files level set

abbrev pub AreUnlookedFor : Judging → Option (List Wad) → Level → CodeSet → Type 0
AreUnlookedFor judging files level set = AreUnlookedBy judging.warnings judging.ignored files level set

-- the codes of a set, in the order of a report, and whether there is one
abbrev pub codes_in : CodeSet → List ReportCode
codes_in set = filter (has set) report_order

abbrev pub has_any : CodeSet → Bool
has_any set = not (nat_eq (length (codes_in set)) 0)

-- their names, each between two texts, and commas between them
abbrev pub name_texts : List ℕ → List ℕ → List ReportCode → List (List ℕ)
name_texts front back codes = map (λ code. front ++ (code_name code ++ back)) codes

abbrev pub names_text : List ℕ → List ℕ → CodeSet → List ℕ
names_text front back set = join_with_byte 44 (name_texts front back (codes_in set))

-- the member that tells them, where there are some: `,"unlooked":["W9","W10"]`
abbrev pub unlooked_names : CodeSet → List ℕ
unlooked_names set = codes ",\"unlooked\":[" ++ (names_text (codes "\"") (codes "\"") set ++ codes "]")

abbrev pub unlooked_member : CodeSet → List ℕ
unlooked_member set = if has_any set then unlooked_names set else []
