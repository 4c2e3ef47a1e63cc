use Rattle.std.specs.Prelude.{codes}
use Rattle.std.proofs.lemmas.Result.{err_from_is_err_and}
use Rattle.line_io.proofs.WriteLemmas.{Writes-stop}
use Rattle.lens_texts.proofs.WritingLemmas.{Writes-after}
use Rattle.lens_engines.proofs.object.write_last.Goals as goal

pub returns-in_err-write_unlooked : goal.returns-in_err-write_unlooked
returns-in_err-write_unlooked g c =
    let p = err_from_is_err_and c.from_residual.result c.from_residual.ensures.1 in
    rw (p.1, p.2) (Writes-stop (codes "}\n") c.in_err-write_unlooked.ensures)

pub returns : goal.returns
returns g c = Writes-after c.in_ok-write_unlooked.ensures c.emit.ensures
