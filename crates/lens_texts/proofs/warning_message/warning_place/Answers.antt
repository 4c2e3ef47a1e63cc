use Rattle.std.proofs.Common.{◌≡◌, ◌≢◌, ℕ, refl, ap, ◌∙◌}
use Rattle.level_codes.specs.Codes.{kind_of}
use Rattle.level_codes.specs.declared.code.ReportCode.TheVariants as report
use Rattle.map_level.specs.Level.{Level}
use Rattle.map_warnings.specs.Warnings.{code_of, number_of}
use Rattle.map_warnings.specs.declared.warning.Warning.{Warning}
use Rattle.map_warnings.specs.declared.warning.Warning.TheVariants.{Unclosed}
use Rattle.lens_texts.specs.Place.{place_at}
use Rattle.lens_texts.specs.WarningMessage.{warning_place}
use Rattle.lens_texts.proofs.warning_message.warning_place.Goals as goal

-- each warning but W1 lies where its record is
by_record : (level : Level) (w : Warning) → ((sector vertex : ℕ) → w ≢ Unclosed sector vertex) → place_at level (kind_of (report.Warning (code_of w))) (number_of w) ≡ warning_place level w
by_record level (Unclosed sector vertex) other = absurd (other sector vertex refl)
by_record level _ other = refl

pub returns-in_default : goal.returns-in_default
returns-in_default c =
    let level = c.args.level.now in
    let w = c.args.warning in
    let kind : c.kind-kind.result ≡ kind_of (report.Warning (code_of w)) = c.kind-kind.ensures ∙ ap (λ code. kind_of (report.Warning code)) c.code.ensures in
    c.place_at.ensures ∙ ap (λ k. place_at level k c.number.result) kind ∙ ap (place_at level (kind_of (report.Warning (code_of w)))) c.number.ensures
    ∙ by_record level w c.in_default.not-Unclosed
