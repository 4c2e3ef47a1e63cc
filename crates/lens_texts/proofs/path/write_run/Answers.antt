use Rattle.std.proofs.Common.{◌-◌, drop, get_or, take}
use Rattle.std.proofs.lemmas.Result.{err_from_is_err_and}
use Rattle.line_io.proofs.WriteLemmas.{Writes-stop, Writes-then}
use Rattle.lens_texts.specs.ShownPath.{control_text}
use Rattle.lens_texts.proofs.path.write_run.Goals as goal

pub returns-in_err-emit : goal.returns-in_err-emit
returns-in_err-emit g c =
    let p = err_from_is_err_and c.from_residual.result c.from_residual.ensures.1 in
    rw (p.1, p.2) (Writes-stop (control_text (get_or c.args.path.now c.args.at 0)) c.in_err-emit.ensures)

pub returns : goal.returns
returns g c =
    Writes-then _ _ _ (take (c.args.at - c.args.from) (drop c.args.from c.args.path.now)) _ c.in_ok-emit.ensures.takes.whole
    (rw c.control_text.ensures at c.emit-2.ensures)
