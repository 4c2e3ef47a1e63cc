use Rattle.std.proofs.Common.{◌≡◌, ◌≢◌, ℕ, refl, ap, ◌∙◌}
use Rattle.game_warnings.specs.Warnings as game
use Rattle.game_warnings.specs.declared.warning.GameWarning.{GameWarning}
use Rattle.game_warnings.specs.declared.warning.GameWarning.TheVariants.{ManyStarts}
use Rattle.level_codes.specs.Codes as codes
use Rattle.level_codes.specs.declared.code.ReportCode.TheVariants as report
use Rattle.map_warnings.specs.Game.{report_code}
use Rattle.map_warnings.specs.Warnings.{ends_at}
use Rattle.map_warnings.proofs.warning.ends_at.Goals as goal

-- at all that it does but at spare starts it ends as the code says
by_code : (w : GameWarning) → ((starts : ℕ) → w ≢ ManyStarts starts) → codes.ends_game (report.Warning (report_code (game.code_of w))) ≡ ends_at w
by_code (ManyStarts starts) other = absurd (other starts refl)
by_code _ other = refl

pub returns-in_default : goal.returns-in_default
returns-in_default c =
    c.ends_game.ensures ∙ ap (λ code. codes.ends_game (report.Warning code)) (c.report_code.ensures ∙ ap report_code c.code.ensures)
    ∙ by_code c.args.told c.in_default.not-ManyStarts
