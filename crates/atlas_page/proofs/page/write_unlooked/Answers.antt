use Rattle.std.proofs.Common.{◌++◌, codes, sym, ◌∙◌}
use Rattle.std.proofs.lemmas.Result.{err_from_is_err_and}
use Rattle.line_io.proofs.WriteLemmas.{Writes-stop}
use Rattle.lens_texts.proofs.WritingLemmas.{Writes-after, Writes-later}
use Rattle.lens_engines.specs.Unlisted.{unlisted_note}
use Rattle.atlas_page.proofs.page.write_unlooked.Goals as goal

pub returns-in_err-emit : goal.returns-in_err-emit
returns-in_err-emit g c =
    let p = err_from_is_err_and c.from_residual.result c.from_residual.ensures.1 in
    rw (sym c.is_none.ensures ∙ c.if-is_none.false, p.1, p.2) (Writes-stop (unlisted_note c.args.unlisted ++ codes "</p>\n") c.in_err-emit.ensures)

pub returns-in_err-write_note : goal.returns-in_err-write_note
returns-in_err-write_note g c =
    let p = err_from_is_err_and c.from_residual-in_err-write_note.result c.from_residual-in_err-write_note.ensures.1 in
    rw (sym c.is_none.ensures ∙ c.if-is_none.false, p.1, p.2) (Writes-later {T = Unit {0}} c.in_ok-emit.ensures (Writes-stop (codes "</p>\n") c.in_err-write_note.ensures))

pub returns : goal.returns
returns g c = rw (sym c.is_none.ensures ∙ c.if-is_none.false) (Writes-after c.in_ok-emit.ensures (Writes-after c.in_ok-write_note.ensures c.emit-3.ensures))
