use Rattle.std.proofs.lemmas.Result.{err_from_is_err_and}
use Rattle.line_io.proofs.WriteLemmas.{Writes-stop, Writes-then}
use Rattle.lens_texts.proofs.lines.write_both.Goals as goal

pub returns-in_err-emit : goal.returns-in_err-emit
returns-in_err-emit g c =
    let p = err_from_is_err_and c.from_residual.result c.from_residual.ensures.1 in
    rw (p.1, p.2) (Writes-stop c.args.second.now c.in_err-emit.ensures)

pub returns : goal.returns
returns g c = Writes-then _ _ _ c.args.first.now _ c.in_ok-emit.ensures.takes.whole c.emit-2.ensures
