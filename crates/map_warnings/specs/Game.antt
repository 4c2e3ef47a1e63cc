-- The report's codes of what the released game does with a level (ours).
use Rattle.game_warnings.specs.declared.code.GameCode.{GameCode}
use Rattle.game_warnings.specs.declared.code.GameCode.TheVariants as game
use Rattle.level_codes.specs.declared.code.WarningCode.{WarningCode}
use Rattle.level_codes.specs.declared.code.WarningCode.TheVariants.{W14, W15, W16, W17, W18, W19, W21, W22, W25}

abbrev pub report_code : GameCode → WarningCode
report_code game.W14 = W14
report_code game.W15 = W15
report_code game.W16 = W16
report_code game.W17 = W17
report_code game.W18 = W18
report_code game.W19 = W19
report_code game.W21 = W21
report_code game.W22 = W22
report_code game.W25 = W25
