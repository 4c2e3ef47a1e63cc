use Rattle.std.proofs.lemmas.Result.{err_from_is_err_and}
use Rattle.line_io.proofs.WriteLemmas.{Writes-stop, Writes-then}
use Rattle.map_picture.specs.Head.{size_text, view_text}
use Rattle.map_picture.proofs.head.write_svg.Goals as goal

pub returns-in_err-write_view : goal.returns-in_err-write_view
returns-in_err-write_view g c =
    let p = err_from_is_err_and c.from_residual.result c.from_residual.ensures.1 in
    rw (p.1, p.2) (Writes-stop (size_text c.args.window.now) c.in_err-write_view.ensures)

pub returns : goal.returns
returns g c = Writes-then _ _ _ (view_text c.args.window.now) c.write_size.result c.in_ok-write_view.ensures.takes.whole c.write_size.ensures
