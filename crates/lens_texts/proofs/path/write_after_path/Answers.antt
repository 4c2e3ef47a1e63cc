use Rattle.std.proofs.lemmas.Result.{err_from_is_err_and}
use Rattle.line_io.proofs.WriteLemmas.{Writes-stop, Writes-then}
use Rattle.lens_texts.specs.ShownPath.{shown_path}
use Rattle.lens_texts.proofs.path.write_after_path.Goals as goal

pub returns-in_err-write_path : goal.returns-in_err-write_path
returns-in_err-write_path g c =
    let p = err_from_is_err_and c.from_residual.result c.from_residual.ensures.1 in
    rw (p.1, p.2) (Writes-stop c.args.text.now c.in_err-write_path.ensures)

pub returns : goal.returns
returns g c = Writes-then _ _ _ (shown_path c.args.path.now) _ c.in_ok-write_path.ensures.takes.whole c.emit.ensures
