use Rattle.std.specs.Prelude.{slice_index}
use Rattle.std.proofs.Common.{take}
use Rattle.std.proofs.lemmas.Result.{err_from_is_err_and}
use Rattle.line_io.proofs.WriteLemmas.{Writes-stop, Writes-then}
use Rattle.lens_texts.specs.JsonString.{escape_of}
use Rattle.lens_texts.proofs.json_string.write_run.Goals as goal

pub returns-in_err-emit : goal.returns-in_err-emit
returns-in_err-emit g c =
    let p = err_from_is_err_and c.from_residual.result c.from_residual.ensures.1 in
    rw (p.1, p.2) (Writes-stop (escape_of (slice_index c.args.text.now c.args.at)) c.in_err-emit.ensures)

pub returns : goal.returns
returns g c =
    Writes-then _ _ _ (take c.args.at c.args.text.now) _ c.in_ok-emit.ensures.takes.whole c.write_escape.ensures
