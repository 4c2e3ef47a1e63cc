use Rattle.std.proofs.Common.{◌≡◌, [], sym, ◌∙◌}
use Rattle.std.specs.Str.Lossy.{replacement_bytes}
use Rattle.std.proofs.lemmas.Bool.{cond-true, cond-false}
use Rattle.std.proofs.lemmas.List.{append-nil}
use Rattle.std.proofs.lemmas.Result.{err_from_is_err_and}
use Rattle.line_io.proofs.WriteLemmas.{Writes-stop}
use Rattle.lens_texts.specs.JsonString.{escaped, replaced}
use Rattle.lens_texts.proofs.WritingLemmas.{Writes-after}
use Rattle.lens_texts.proofs.json_string.write_chunk.Goals as goal

pub returns-in_err-write_escaped : goal.returns-in_err-write_escaped
returns-in_err-write_escaped g c =
    let p = err_from_is_err_and c.from_residual.result c.from_residual.ensures.1 in
    rw (p.1, p.2) (Writes-stop (replaced c.args.invalid.now) c.in_err-write_escaped.ensures)

pub returns-then-is_empty : goal.returns-then-is_empty
returns-then-is_empty g c =
    let none : replaced c.args.invalid.now ≡ [] = cond-true _ [] replacement_bytes (sym c.is_empty.ensures ∙ c.if-is_empty.true) in
    rw (none, append-nil (escaped c.args.text.now)) c.in_ok-write_escaped.ensures

pub returns : goal.returns
returns g c =
    let some : replaced c.args.invalid.now ≡ replacement_bytes = cond-false _ [] replacement_bytes (sym c.is_empty.ensures ∙ c.if-is_empty.false) in
    rw some (Writes-after c.in_ok-write_escaped.ensures c.emit.ensures)
