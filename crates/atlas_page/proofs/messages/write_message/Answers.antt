use Rattle.std.proofs.Common.{◌++◌, codes}
use Rattle.std.proofs.lemmas.Result.{err_from_is_err_and}
use Rattle.line_io.proofs.WriteLemmas.{Writes-stop}
use Rattle.lens_texts.proofs.WritingLemmas.{Writes-after, Writes-later}
use Rattle.atlas_page.specs.Messages.{linked_text}
use Rattle.atlas_page.proofs.messages.write_message.Goals as goal

pub returns-in_err-write_start : goal.returns-in_err-write_start
returns-in_err-write_start g c =
    let p = err_from_is_err_and c.from_residual.result c.from_residual.ensures.1 in
    let start = rw c.code.ensures at c.in_err-write_start.ensures in
    rw (p.1, p.2) (Writes-stop (linked_text c.args.form.now c.args.level.now c.args.remark ++ codes "</li>\n") start)

pub returns-in_err-write_linked : goal.returns-in_err-write_linked
returns-in_err-write_linked g c =
    let p = err_from_is_err_and c.from_residual-in_err-write_linked.result c.from_residual-in_err-write_linked.ensures.1 in
    let start = rw c.code.ensures at c.in_ok-write_start.ensures in
    rw (p.1, p.2) (Writes-later {T = Unit {0}} start (Writes-stop (codes "</li>\n") c.in_err-write_linked.ensures))

pub returns : goal.returns
returns g c =
    let start = rw c.code.ensures at c.in_ok-write_start.ensures in
    Writes-after start (Writes-after c.in_ok-write_linked.ensures c.emit.ensures)
