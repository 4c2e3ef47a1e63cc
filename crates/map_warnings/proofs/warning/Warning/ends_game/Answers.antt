use Rattle.std.proofs.Common.{◌≡◌, ◌≢◌, refl, ap, ◌∙◌}
use Rattle.game_warnings.specs.declared.warning.GameWarning.{GameWarning}
use Rattle.level_codes.specs.Codes as codes
use Rattle.level_codes.specs.declared.code.ReportCode.TheVariants as report
use Rattle.map_warnings.specs.Warnings.{code_of, ends_game}
use Rattle.map_warnings.specs.declared.warning.Warning.{Warning}
use Rattle.map_warnings.specs.declared.warning.Warning.TheVariants.{Game}
use Rattle.map_warnings.proofs.warning.Warning.ends_game.Goals as goal

-- at each warning but the game's own it ends as the code says
by_code : (w : Warning) → ((v : GameWarning) → w ≢ Game v) → codes.ends_game (report.Warning (code_of w)) ≡ ends_game w
by_code (Game v) other = absurd (other v refl)
by_code _ other = refl

pub returns-in_default : goal.returns-in_default
returns-in_default c =
    c.ends_game.ensures ∙ ap (λ code. codes.ends_game (report.Warning code)) c.code.ensures ∙ by_code c.args.self c.in_default.not-Game
