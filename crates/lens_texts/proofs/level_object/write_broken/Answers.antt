use Rattle.std.proofs.Common.{◌≡◌, [], ◌++◌, append-nil, ◌∙◌, rules}
use Rattle.lens_texts.specs.JsonString.{json_string}
use Rattle.node_lumps.specs.Words.{broken_text}
use Rattle.std.proofs.lemmas.Result.{err_from_is_err_and}
use Rattle.line_io.proofs.WriteLemmas.{Writes-stop}
use Rattle.lens_texts.proofs.WritingLemmas.{Writes-after}
use Rattle.lens_texts.proofs.level_object.write_broken.Goals as goal

pub returns-in_err-emit : goal.returns-in_err-emit
returns-in_err-emit g c =
    let p = err_from_is_err_and c.from_residual.result c.from_residual.ensures.1 in
    rw (p.1, p.2) (Writes-stop (json_string (broken_text c.args.why)) c.in_err-emit.ensures)

pub returns : goal.returns
returns g c =
    let text : c.as_bytes.result.now ≡ broken_text c.args.why ++ [] = search rules in
    let words : c.as_bytes.result.now ≡ broken_text c.args.why = text ∙ append-nil (broken_text c.args.why) in
    Writes-after c.in_ok-emit.ensures (rw words at c.write_string.ensures)
