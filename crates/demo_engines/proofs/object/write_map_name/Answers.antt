use Rattle.lens_texts.specs.LevelObject.{name_string}
use Rattle.std.proofs.lemmas.Result.{err_from_is_err_and}
use Rattle.line_io.proofs.WriteLemmas.{Writes-stop}
use Rattle.lens_texts.proofs.WritingLemmas.{Writes-after}
use Rattle.demo_engines.proofs.object.write_map_name.Goals as goal

pub returns-in_err-emit : goal.returns-in_err-emit
returns-in_err-emit g c =
    let p = err_from_is_err_and c.from_residual.result c.from_residual.ensures.1 in
    rw (p.1, p.2) (Writes-stop (name_string c.args.name.now) c.in_err-emit.ensures)

pub returns : goal.returns
returns g c = Writes-after c.in_ok-emit.ensures c.write_name.ensures
