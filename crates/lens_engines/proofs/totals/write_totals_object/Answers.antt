use Rattle.std.proofs.lemmas.Result.{err_from_is_err_and}
use Rattle.line_io.proofs.WriteLemmas.{Writes-stop}
use Rattle.lens_engines.specs.TotalsObject.{partly_members}
use Rattle.lens_texts.proofs.WritingLemmas.{Writes-after}
use Rattle.lens_engines.proofs.totals.write_totals_object.Goals as goal

pub returns-in_err-write_numbers : goal.returns-in_err-write_numbers
returns-in_err-write_numbers g c =
    let p = err_from_is_err_and c.from_residual.result c.from_residual.ensures.1 in
    rw (p.1, p.2) (Writes-stop (partly_members c.args.totals.now.partly c.args.totals.now.unlooked) c.in_err-write_numbers.ensures)

pub returns : goal.returns
returns g c = Writes-after c.in_ok-write_numbers.ensures c.write_partly.ensures
