use Rattle.std.specs.Prelude.{codes}
use Rattle.std.proofs.Common.{◌++◌}
use Rattle.std.proofs.lemmas.List.{append-nil}
use Rattle.std.proofs.lemmas.Result.{err_from_is_err_and}
use Rattle.line_io.proofs.WriteLemmas.{Writes-stop}
use Rattle.lens_texts.proofs.WritingLemmas.{Writes-after, Writes-later}
use Rattle.lens_texts.specs.JsonString.{json_string}
use Rattle.demo_engines.specs.RefusalText.{reason_text}
use Rattle.demo_engines.proofs.object.write_reason.Goals as goal

pub returns-in_err-emit : goal.returns-in_err-emit
returns-in_err-emit g c =
    let p = err_from_is_err_and c.from_residual.result c.from_residual.ensures.1 in
    rw (p.1, p.2) (Writes-stop (json_string (reason_text c.args.why) ++ codes "}\n") c.in_err-emit.ensures)

pub returns-in_err-write_string : goal.returns-in_err-write_string
returns-in_err-write_string g c =
    let p = err_from_is_err_and c.from_residual-in_err-write_string.result c.from_residual-in_err-write_string.ensures.1 in
    let text = rw (c.as_bytes.ensures, c.prepend_reason.ensures.text, c.new-line.ensures, append-nil) at c.in_err-write_string.ensures in
    rw (p.1, p.2) (Writes-later c.in_ok-emit.ensures (Writes-stop {U = Unit {0}} (codes "}\n") text))

pub returns : goal.returns
returns g c =
    let text = rw (c.as_bytes.ensures, c.prepend_reason.ensures.text, c.new-line.ensures, append-nil) at c.in_ok-write_string.ensures in
    Writes-after c.in_ok-emit.ensures (Writes-after text c.emit-2.ensures)
