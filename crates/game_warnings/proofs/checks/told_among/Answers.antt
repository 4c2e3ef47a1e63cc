use Rattle.std.proofs.Common.{sym}
use Rattle.game_warnings.proofs.AloneLemmas.{ok_alone}
use Rattle.game_warnings.proofs.checks.told_among.Goals as goal

pub returns-in-W22-clause-told : goal.returns-in-W22-clause-told
returns-in-W22-clause-told g c = rw c.in-W22.is c.limits_among.ensures.told

pub returns-in-W25-clause-told : goal.returns-in-W25-clause-told
returns-in-W25-clause-told g c = rw c.in-W25.is c.misplaced_flats.ensures.told

pub returns-in_default-clause-told : goal.returns-in_default-clause-told
returns-in_default-clause-told g c =
    ok_alone c.args.graphics.now c.args.level.now c.args.code (λ e. c.in_default.not-W22 (sym e)) (λ e. c.in_default.not-W25 (sym e)) c.told_of.result c.told_of.ensures.told
