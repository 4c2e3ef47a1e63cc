use Rattle.std.proofs.Common.{◌++◌, codes}
use Rattle.std.proofs.lemmas.Result.{err_from_is_err_and}
use Rattle.line_io.proofs.WriteLemmas.{Writes-stop}
use Rattle.lens_texts.proofs.WritingLemmas.{Writes-after, Writes-later}
use Rattle.lens_texts.specs.ShownPath.{shown_path}
use Rattle.lens_reports.proofs.cut.write_no_name.Goals as goal

pub returns-in_err-emit : goal.returns-in_err-emit
returns-in_err-emit g c =
    let p = err_from_is_err_and c.from_residual.result c.from_residual.ensures.1 in
    rw (p.1, p.2)
    (Writes-stop (shown_path c.args.path.now ++ (codes ": " ++ (shown_path c.args.name.now ++ codes ": no level of this name\n"))) c.in_err-emit.ensures)

pub returns-in_err-write_path : goal.returns-in_err-write_path
returns-in_err-write_path g c =
    let p = err_from_is_err_and c.from_residual-in_err-write_path.result c.from_residual-in_err-write_path.ensures.1 in
    rw (p.1, p.2)
    (Writes-later {T = Unit {0}} c.in_ok-emit.ensures
    (Writes-stop (codes ": " ++ (shown_path c.args.name.now ++ codes ": no level of this name\n")) c.in_err-write_path.ensures))

pub returns : goal.returns
returns g c = Writes-after c.in_ok-emit.ensures (Writes-after c.in_ok-write_path.ensures c.write_lacking.ensures)
