use Rattle.std.specs.Prelude.{codes}
use Rattle.std.proofs.Common.{◌++◌}
use Rattle.demo_engines.specs.Objects.{footer_member}
use Rattle.std.proofs.lemmas.Result.{err_from_is_err_and}
use Rattle.line_io.proofs.WriteLemmas.{Writes-stop}
use Rattle.lens_texts.proofs.WritingLemmas.{Writes-after, Writes-later}
use Rattle.demo_engines.proofs.object.write_end.Goals as goal

pub returns-in_err-write_footer_text : goal.returns-in_err-write_footer_text
returns-in_err-write_footer_text g c =
    let p = err_from_is_err_and c.from_residual.result c.from_residual.ensures.1 in
    rw (p.1, p.2) (Writes-stop (footer_member (codes "words") c.args.footer.now.words ++ codes "}\n") (rw c.port.ensures at c.in_err-write_footer_text.ensures))

pub returns-in_err-write_footer_text-2 : goal.returns-in_err-write_footer_text-2
returns-in_err-write_footer_text-2 g c =
    let p = err_from_is_err_and c.from_residual-in_err-write_footer_text-2.result c.from_residual-in_err-write_footer_text-2.ensures.1 in
    rw (p.1, p.2) (Writes-later (rw c.port.ensures at c.in_ok-write_footer_text.ensures) (Writes-stop {U = Unit {0}} (codes "}\n") (rw c.words.ensures at c.in_err-write_footer_text-2.ensures)))

pub returns : goal.returns
returns g c = Writes-after (rw c.port.ensures at c.in_ok-write_footer_text.ensures) (Writes-after (rw c.words.ensures at c.in_ok-write_footer_text-2.ensures) c.emit.ensures)
