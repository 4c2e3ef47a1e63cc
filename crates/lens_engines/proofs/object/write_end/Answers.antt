use Rattle.std.specs.Prelude.{codes}
use Rattle.std.proofs.Common.{◌++◌}
use Rattle.std.proofs.lemmas.Result.{err_from_is_err_and}
use Rattle.line_io.proofs.WriteLemmas.{Writes-stop}
use Rattle.lens_engines.specs.Objects.{warnings_member}
use Rattle.lens_engines.specs.Unlooked.{unlooked_member}
use Rattle.lens_texts.proofs.WritingLemmas.{Writes-after, Writes-later}
use Rattle.lens_engines.proofs.object.write_end.Goals as goal

pub returns-in_err-write_found : goal.returns-in_err-write_found
returns-in_err-write_found g c =
    let p = err_from_is_err_and c.from_residual.result c.from_residual.ensures.1 in
    rw (p.1, p.2) (Writes-stop (warnings_member c.args.counted.now.warnings c.args.counted.now.counts ++ (unlooked_member c.args.counted.now.unlooked ++ codes "}\n")) c.in_err-write_found.ensures)

pub returns-in_err-write_warnings : goal.returns-in_err-write_warnings
returns-in_err-write_warnings g c =
    let p = err_from_is_err_and c.from_residual-in_err-write_warnings.result c.from_residual-in_err-write_warnings.ensures.1 in
    rw (p.1, p.2) (Writes-later c.in_ok-write_found.ensures (Writes-stop {U = Unit {0}} (unlooked_member c.args.counted.now.unlooked ++ codes "}\n") c.in_err-write_warnings.ensures))

pub returns : goal.returns
returns g c = Writes-after c.in_ok-write_found.ensures (Writes-after c.in_ok-write_warnings.ensures c.write_last.ensures)
