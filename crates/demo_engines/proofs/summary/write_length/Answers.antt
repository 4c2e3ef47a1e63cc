use Rattle.std.specs.Prelude.{length}
use Rattle.std.proofs.lemmas.Result.{err_from_is_err_and}
use Rattle.line_io.proofs.WriteLemmas.{Writes-stop}
use Rattle.lens_texts.proofs.WritingLemmas.{Writes-after}
use Rattle.demo_engines.specs.Summary.{odd_commands, rest_text}
use Rattle.demo_engines.proofs.summary.write_length.Goals as goal

pub returns-in_err-emit : goal.returns-in_err-emit
returns-in_err-emit g c =
    let p = err_from_is_err_and c.from_residual.result c.from_residual.ensures.1 in
    let demo = c.args.demo.now in
    let length_line = rw (c.as_bytes.ensures, c.prepend_length.ensures, c.full_tics.ensures) at c.in_err-emit.ensures in
    rw (p.1, p.2) (Writes-stop (rest_text demo.key_frame (odd_commands demo) (length demo.rest)) length_line)

pub returns : goal.returns
returns g c =
    let length_line = rw (c.as_bytes.ensures, c.prepend_length.ensures, c.full_tics.ensures) at c.in_ok-emit.ensures in
    let rest_line = rw (c.as_bytes-2.ensures, c.prepend_rest.ensures) at c.emit-2.ensures in
    Writes-after length_line rest_line
