use Rattle.std.proofs.Common.{sym, ◌∙◌}
use Rattle.std.proofs.lemmas.Result.{IfOk-weaker}
use Rattle.lens_engines.proofs.WarnedLemmas.{all_kept, none_ignored}
use Rattle.lens_engines.proofs.warned.told_of.Goals as goal

pub returns-then-ignores-clause-told : goal.returns-then-ignores-clause-told
returns-then-ignores-clause-told g c =
    rw c.new.ensures (none_ignored c.args.ignored.now c.args.resources.now c.args.checks.now c.args.most c.args.code (sym c.ignores.ensures ∙ c.if-ignores.true))

pub returns-clause-told : goal.returns-clause-told
returns-clause-told g c =
    IfOk-weaker c.told.result _ _
    (λ cut. all_kept c.args.ignored.now c.args.resources.now c.args.checks.now c.args.code cut (sym c.ignores.ensures ∙ c.if-ignores.false)) c.told.ensures.told
