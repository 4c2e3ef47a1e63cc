use Rattle.std.proofs.lemmas.Result.{err_from_is_err_and}
use Rattle.line_io.proofs.WriteLemmas.{Writes-stop}
use Rattle.lens_engines.specs.Totals.{partly_text}
use Rattle.lens_texts.proofs.WritingLemmas.{Writes-after}
use Rattle.lens_engines.proofs.totals.write_totals_line.Goals as goal

pub returns-in_err-write_sums : goal.returns-in_err-write_sums
returns-in_err-write_sums g c =
    let p = err_from_is_err_and c.from_residual.result c.from_residual.ensures.1 in
    rw (p.1, p.2) (Writes-stop (partly_text c.args.totals.now.partly) c.in_err-write_sums.ensures)

pub returns : goal.returns
returns g c = Writes-after c.in_ok-write_sums.ensures c.write_partly_line.ensures
