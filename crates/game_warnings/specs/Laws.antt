-- Laws of the warnings (ours).
use Rattle.std.specs.Prelude.{◌≤◌}
use Rattle.map_level.specs.Level.{Level}
use Rattle.game_warnings.specs.Holds.{HoldsOf}
use Rattle.game_warnings.specs.Limit.{deathmatch_count, perpetual_count, scrolling_count}
use Rattle.game_warnings.specs.Save.{saved}
use Rattle.game_warnings.specs.declared.code.GameCode.TheVariants.{W22}
use Rattle.game_warnings.specs.declared.warning.GameWarning.{GameWarning}

-- what W22 counts is within the game's arrays
pub record IsWithinLimits (level : Level) : Type 0 where
  pub scrolling : scrolling_count level ≤ 64
  pub perpetual : perpetual_count level ≤ 30
  pub starts : deathmatch_count level ≤ 10
  pub save : saved level ≤ 180224

-- that is so of each level without W22
abbrev pub NoneIsWithinLimits : Type 0
NoneIsWithinLimits = (level : Level) → ((w : GameWarning) → ¬ HoldsOf level W22 w) → IsWithinLimits level
