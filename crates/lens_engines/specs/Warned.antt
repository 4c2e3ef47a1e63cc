-- The report on a level's warnings (ours).
use Rattle.std.specs.Prelude.{◌≡◌, ◌↔◌, ℕ, Bool, true, false, List, [], ◌∷◌, ◌++◌, Option, Some, None, All, IsTrue, map}
use Rattle.map_warnings.specs.Warnings.{Cut, ends_game, Tells}
use Rattle.map_warnings.specs.declared.warning.Warning.{Warning}
use Rattle.level_codes.specs.declared.code.WarningCode.{WarningCode}
use Rattle.level_codes.specs.Codes.{warning_codes}
use Rattle.level_codes.specs.declared.code.ReportCode.TheVariants as report
use Rattle.map_level.specs.Level.{Level}
use Rattle.wad_dir.specs.Wad.{Wad}
use Rattle.lens_engines.specs.Ignored.{WarnsUnlessIgnored}
use Rattle.level_codes.specs.declared.set.CodeSet.{CodeSet}
use Rattle.lens_engines.specs.declared.judging.Judging.{Judging}
use Rattle.lens_engines.specs.declared.judging.Warnings.{Warnings}
use Rattle.lens_engines.specs.declared.judging.Warnings.TheVariants.{Unasked, Told}

-- the report on a code: the first of its warnings, how many there are, and whether the released game ends at one
pub record Warned : Type 0 where
  pub code : WarningCode
  pub cut : Cut
  pub ends : Bool

-- a warning of a code is told of a level, and the released game ends at it
pub record EndsUnlessIgnored (ignored : CodeSet) (files : Option (List Wad)) (level : Level) (code : WarningCode) (w : Warning) : Type 0 where
  pub warns : WarnsUnlessIgnored ignored files level code w
  pub ends : ends_game w ≡ true

-- that of a level, with at most so many warnings, and none of an ignored code; the level's textures and flats are those of some files, if these are known
pub record IsWarned (ignored : CodeSet) (files : Option (List Wad)) (level : Level) (most : ℕ) (warned : Warned) : Type 0 where
  pub tells : Tells (WarnsUnlessIgnored ignored files level warned.code) warned.cut
  pub cut_at : warned.cut.most ≡ most
  pub ends : IsTrue warned.ends ↔ ((w : Warning) × EndsUnlessIgnored ignored files level warned.code w)

-- the report on all codes
pub record AreWarned (ignored : CodeSet) (files : Option (List Wad)) (level : Level) (most : ℕ) (all : List Warned) : Type 0 where
  pub codes : map (λ warned. report.Warning warned.code) all ≡ warning_codes
  pub each : All (IsWarned ignored files level most) all

-- the report on a code was added
pub record AddsWarned (ignored : CodeSet) (files : Option (List Wad)) (level : Level) (most : ℕ) (code : WarningCode) (old new : List Warned) : Type 0 where
  pub warned : Warned
  pub is : new ≡ old ++ warned ∷ []
  pub of_code : warned.code ≡ code
  pub told : IsWarned ignored files level most warned

-- whether warnings are looked for
abbrev pub are_asked : Warnings → Bool
are_asked Unasked = false
are_asked Told = true

-- the report on a level's warnings, as they are asked for: empty if they aren't looked for
abbrev pub AreAskedBy : Warnings → CodeSet → Option (List Wad) → Level → ℕ → List Warned → Type 0
AreAskedBy Unasked ignored files level most all = all ≡ []
AreAskedBy Told ignored files level most all = AreWarned ignored files level most all

abbrev pub AreAskedFor : Judging → Option (List Wad) → Level → ℕ → List Warned → Type 0
AreAskedFor judging files level most all = AreAskedBy judging.warnings judging.ignored files level most all

-- some files, where warnings are looked for
abbrev pub where_asked : Warnings → List Wad → Option (List Wad)
where_asked Unasked files = None
where_asked Told files = Some files

-- the files in which a level's textures and flats are looked up, if warnings are looked for: the base files and then the level's own
abbrev pub known_files : Judging → List Wad → Option (List Wad)
known_files judging files = where_asked judging.warnings (judging.base.now ++ files)
