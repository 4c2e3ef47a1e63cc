use Rattle.std.proofs.Common.{◌-◌, [], refl, ◌∙◌, arith}
use Rattle.std.proofs.lemmas.Result.{err_from_is_err_and}
use Rattle.level_codes.specs.declared.code.ReportCode.TheVariants.{Finding}
use Rattle.line_io.proofs.WriteLemmas.{Writes-stop, Writes-then}
use Rattle.line_io.proofs.WriteProgressLemmas.{SoFar-end, SoFar-none}
use Rattle.lens_engines.proofs.CodeLemmas.{none_told, shown-left, shown-take}
use Rattle.lens_engines.specs.WarnedText.{more_text}
use Rattle.lens_engines.proofs.level_lines.write_code.Goals as goal

pub returns-then-count-eq0-clause-text : goal.returns-then-count-eq0-clause-text
returns-then-count-eq0-clause-text g c = λ indexes are count.
    let none = none_told (g.F.WriteRemarks.text c.args.form.now c.args.judged.now.level) (g.F.WriteRemarks.left c.args.form.now) c.args.most c.args.code indexes (count ∙ c.if-count-eq0.true) in
    rw none (SoFar-end tt (SoFar-none [] (g.W.Sink.state c.args.out.now)) refl c.requires.sound)

pub returns-in_err-write_shown-clause-text : goal.returns-in_err-write_shown-clause-text
returns-in_err-write_shown-clause-text g c =
    let p = err_from_is_err_and c.from_residual.result c.from_residual.ensures.1 in
    rw (p.1, p.2) (λ indexes are count.
    rw (count, ← shown-take c.args.most indexes, count, ← c.min-shown.ensures)
    (Writes-stop (more_text (g.F.WriteRemarks.left c.args.form.now) (Finding c.args.code) (c.args.count - c.args.most))
    (c.in_err-write_shown.ensures.text indexes (are (omega (arith, c.if-count-eq0.false))))))

pub returns-clause-text : goal.returns-clause-text
returns-clause-text g c = λ indexes are count.
    let rest = rw (c.min-shown.ensures, shown-left c.args.most c.args.count) at c.write_more.ensures in
    rw (count, ← shown-take c.args.most indexes, count, ← c.min-shown.ensures)
    (Writes-then _ _ _ _ _ (c.in_ok-write_shown.ensures.text indexes (are (omega (arith, c.if-count-eq0.false)))).takes.whole rest)
