use Rattle.std.specs.Prelude.{codes}
use Rattle.std.proofs.Common.{◌++◌}
use Rattle.std.proofs.lemmas.Result.{err_from_is_err_and}
use Rattle.level_codes.specs.Codes.{warning_codes}
use Rattle.line_io.proofs.WriteLemmas.{Writes-stop}
use Rattle.lens_engines.proofs.OrderLemmas.{warnings-behind}
use Rattle.lens_engines.specs.Objects.{counts_text}
use Rattle.lens_texts.proofs.WritingLemmas.{Writes-after, Writes-later}
use Rattle.lens_engines.proofs.object.write_asked.Goals as goal

pub returns-in_err-emit : goal.returns-in_err-emit
returns-in_err-emit g c =
    let p = err_from_is_err_and c.from_residual.result c.from_residual.ensures.1 in
    rw (p.1, p.2) (Writes-stop (counts_text c.args.counts.now warning_codes ++ codes "}") c.in_err-emit.ensures)

pub returns-in_err-write_codes : goal.returns-in_err-write_codes
returns-in_err-write_codes g c =
    let p = err_from_is_err_and c.from_residual-in_err-write_codes.result c.from_residual-in_err-write_codes.ensures.1 in
    let text = rw warnings-behind at c.in_err-write_codes.ensures in
    rw (p.1, p.2) (Writes-later c.in_ok-emit.ensures (Writes-stop {U = Unit {0}} (codes "}") text))

pub returns : goal.returns
returns g c =
    let text = rw warnings-behind at c.in_ok-write_codes.ensures in
    Writes-after c.in_ok-emit.ensures (Writes-after text c.emit-2.ensures)
