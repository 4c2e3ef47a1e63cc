use Rattle.std.proofs.Common.{◌≡◌, ◌++◌, rules}
use Rattle.std.specs.Prelude.{codes}
use Rattle.std.proofs.lemmas.Result.{err_from_is_err_and}
use Rattle.line_io.proofs.WriteLemmas.{Writes-stop}
use Rattle.lens_texts.specs.RemarkObject.{place_member}
use Rattle.lens_texts.specs.JsonString.{json_string}
use Rattle.lens_texts.proofs.WritingLemmas.{Writes-after, Writes-later}
use Rattle.lens_texts.proofs.remark_object.write_message.Goals as goal

pub returns-in_err-emit : goal.returns-in_err-emit
returns-in_err-emit g c =
    let p = err_from_is_err_and c.from_residual.result c.from_residual.ensures.1 in
    rw (p.1, p.2) (Writes-stop (json_string c.args.text.now ++ place_member c.args.place (codes "}\n")) c.in_err-emit.ensures)

pub returns-in_err-write_string : goal.returns-in_err-write_string
returns-in_err-write_string g c =
    let p = err_from_is_err_and c.from_residual-in_err-write_string.result c.from_residual-in_err-write_string.ensures.1 in
    rw (p.1, p.2) (Writes-later c.in_ok-emit.ensures (Writes-stop {U = Unit {0}} (place_member c.args.place (codes "}\n")) c.in_err-write_string.ensures))

pub returns : goal.returns
returns g c =
    let end : c.as_bytes.result.now ≡ place_member c.args.place (codes "}\n") = search rules in
    Writes-after c.in_ok-emit.ensures (Writes-after c.in_ok-write_string.ensures (rw end at c.emit-2.ensures))
