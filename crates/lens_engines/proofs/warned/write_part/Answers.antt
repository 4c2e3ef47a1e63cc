use Rattle.std.proofs.Common.{◌≡◌, ◌-◌, length, rules}
use Rattle.std.proofs.lemmas.Result.{err_from_is_err_and}
use Rattle.line_io.proofs.WriteLemmas.{Writes-stop, Writes-then}
use Rattle.level_codes.specs.declared.code.ReportCode.TheVariants.{Warning}
use Rattle.lens_engines.specs.WarnedText.{more_text}
use Rattle.lens_engines.proofs.warned.write_part.Goals as goal

pub returns-in_err-write_first : goal.returns-in_err-write_first
returns-in_err-write_first g c =
    let p = err_from_is_err_and c.from_residual.result c.from_residual.ensures.1 in
    let lines = rw c.first-first.ensures at c.in_err-write_first.ensures in
    rw (p.1, p.2, ← c.warned.view_is)
    (Writes-stop (more_text (g.F.WriteRemarks.left c.args.form.now) (Warning c.warned.inside.code) (c.warned.inside.told.count - length c.warned.inside.told.first)) lines)

pub returns : goal.returns
returns g c =
    let lines = rw c.first-first.ensures at c.in_ok-write_first.ensures.takes.whole in
    let left : c.saturating_sub-left.result ≡ c.warned.inside.told.count - length c.warned.inside.told.first = search rules in
    let more = rw left at c.write_more.ensures in
    rw (← c.warned.view_is) (Writes-then _ _ _ _ _ lines more)
