-- How levels are judged, over the base files (ours).
use Rattle.std.specs.Prelude.{◌≡◌, List}
use Rattle.wad_dir.specs.Wad.{Wad}
use Rattle.lens_engines.specs.declared.judging.Judging.{Judging}
use Rattle.lens_engines.specs.declared.judging.Rules.{Rules}

-- by these rules, over these files
pub record IsOver (rules : Rules) (base : List Wad) (judging : Judging) : Type 0 where
  pub reading : judging.reading ≡ rules.reading
  pub warnings : judging.warnings ≡ rules.warnings
  pub ignored : judging.ignored ≡ rules.ignored
  pub failing : judging.failing ≡ rules.failing
  pub game_ends : judging.game_ends ≡ rules.game_ends
  pub over : judging.base.now ≡ base
