use Rattle.std.proofs.Common.{◌<◌, sym, ap, ◌∙◌, arith}
use Rattle.std.proofs.lemmas.Bool.{true≢false}
use Rattle.std.proofs.lemmas.Result.{IfOk-weaker}
use Rattle.level_codes.specs.Codes.{ends_game}
use Rattle.level_codes.specs.declared.code.ReportCode.TheVariants as report
use Rattle.level_codes.specs.declared.code.WarningCode.{WarningCode}
use Rattle.map_warnings.proofs.GameLemmas.{ends_by_code, ends_other}
use Rattle.lens_engines.proofs.warned.ends_at.Goals as goal

-- none is told
pub returns-then-count-eq0 : goal.returns-then-count-eq0
returns-then-count-eq0 g c = (
  (λ yes. absurd (true≢false (sym yes))),
  (λ one. absurd (omega (arith, c.requires.1 (one.0, one.1.warns), c.if-count-eq0.true))),
)

-- some are told
pub returns-in-W22 : goal.returns-in-W22
returns-in-W22 g c =
    let some : 0 < c.args.count = omega (arith, c.if-count-eq0.false) in
    let kept = (c.requires.0 some).1.0 in
    IfOk-weaker c.ends_game.result _ _
    (λ ends is. (
      (λ yes. let one = is.0 yes in (one.0, record { warns = (kept, one.1.reported); ends = one.1.ends })),
      (λ one. is.1 (one.0, record { reported = one.1.warns.1; ends = one.1.ends })),
    )) c.ends_game.ensures

pub returns-in_default : goal.returns-in_default
returns-in_default g c =
    let some : 0 < c.args.count = omega (arith, c.if-count-eq0.false) in
    let first = c.requires.0 some in
    let ends = λ (code : WarningCode). ends_game (report.Warning code) in (
      (λ yes. (
        first.0,
        record {
          warns = first.1;
          ends = ends_other first.0 (λ limits. c.in_default.not-W22 (sym first.1.1.1.0 ∙ limits)) ∙ ap ends first.1.1.1.0
              ∙ sym c.ends_game-in_default.ensures ∙ yes;
        },
      )),
      (λ one. c.ends_game-in_default.ensures ∙ sym (ap ends one.1.warns.1.1.0) ∙ ends_by_code one.0 one.1.ends),
    )
