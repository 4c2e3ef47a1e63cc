use Rattle.std.proofs.Common.{◌++◌, codes}
use Rattle.std.proofs.lemmas.Result.{err_from_is_err_and}
use Rattle.line_io.proofs.WriteLemmas.{Writes-stop}
use Rattle.lens_texts.proofs.WritingLemmas.{Writes-after, Writes-later}
use Rattle.lens_texts.specs.Escape.{escaped}
use Rattle.lens_texts.specs.RemarkLine.{remark_words}
use Rattle.atlas_page.proofs.messages.write_within.Goals as goal

pub returns-in_err-write_link : goal.returns-in_err-write_link
returns-in_err-write_link g c =
    let p = err_from_is_err_and c.from_residual.result c.from_residual.ensures.1 in
    rw (p.1, p.2) (Writes-stop (escaped (remark_words c.args.level.now c.args.remark) ++ codes "</a>") c.in_err-write_link.ensures)

pub returns-in_err-write_words : goal.returns-in_err-write_words
returns-in_err-write_words g c =
    let p = err_from_is_err_and c.from_residual-in_err-write_words.result c.from_residual-in_err-write_words.ensures.1 in
    rw (p.1, p.2) (Writes-later {T = Unit {0}} c.in_ok-write_link.ensures (Writes-stop (codes "</a>") c.in_err-write_words.ensures))

pub returns : goal.returns
returns g c = Writes-after c.in_ok-write_link.ensures (Writes-after c.in_ok-write_words.ensures c.emit.ensures)
