use Rattle.std.specs.Prelude.{codes}
use Rattle.std.proofs.Common.{◌++◌, sym}
use Rattle.std.proofs.lemmas.List.{append_assoc}
use Rattle.std.proofs.lemmas.Result.{err_from_is_err_and}
use Rattle.line_io.proofs.WriteLemmas.{Writes-stop}
use Rattle.lens_texts.proofs.WritingLemmas.{Writes-after}
use Rattle.lens_texts.specs.JsonString.{json_string}
use Rattle.demo_engines.proofs.ObjectLemmas.{text_from}
use Rattle.demo_engines.proofs.object.write_text.Goals as goal

pub returns-in_err-emit : goal.returns-in_err-emit
returns-in_err-emit g c =
    let p = err_from_is_err_and c.from_residual.result c.from_residual.ensures.1 in
    rw (p.1, p.2) (text_from c.args.name.now c.args.text.now _ _ _ (Writes-stop (json_string c.args.text.now) (rw (c.as_bytes.ensures, c.prepend_bytes-3.ensures.text, c.prepend_bytes-2.ensures.text, c.prepend_bytes.ensures.text, c.new-line.ensures) at c.in_err-emit.ensures)))

pub returns : goal.returns
returns g c =
    text_from c.args.name.now c.args.text.now _ _ _
    (Writes-after (rw (c.as_bytes.ensures, c.prepend_bytes-3.ensures.text, c.prepend_bytes-2.ensures.text, c.prepend_bytes.ensures.text, c.new-line.ensures) at c.in_ok-emit.ensures) c.write_string.ensures)
