use Rattle.std.specs.Prelude.{codes}
use Rattle.std.proofs.Common.{◌++◌}
use Rattle.lens_texts.specs.LevelObject.{number_member}
use Rattle.demo_engines.specs.Objects.{map_name_member}
use Rattle.std.proofs.lemmas.Result.{err_from_is_err_and}
use Rattle.line_io.proofs.WriteLemmas.{Writes-stop}
use Rattle.lens_texts.proofs.WritingLemmas.{Writes-after, Writes-later}
use Rattle.demo_engines.proofs.object.write_pr_um.Goals as goal

pub returns-in_err-write_text : goal.returns-in_err-write_text
returns-in_err-write_text g c =
    let p = err_from_is_err_and c.from_residual.result c.from_residual.ensures.1 in
    rw (p.1, p.2) (Writes-stop (number_member (codes "wrapper_version") 1 ++ map_name_member c.args.name) c.in_err-write_text.ensures)

pub returns-in_err-write_number : goal.returns-in_err-write_number
returns-in_err-write_number g c =
    let p = err_from_is_err_and c.from_residual-in_err-write_number.result c.from_residual-in_err-write_number.ensures.1 in
    rw (p.1, p.2) (Writes-later c.in_ok-write_text.ensures (Writes-stop {U = Unit {0}} (map_name_member c.args.name) c.in_err-write_number.ensures))

pub returns : goal.returns
returns g c = Writes-after c.in_ok-write_text.ensures (Writes-after c.in_ok-write_number.ensures (rw c.stored.ensures at c.write_map_name.ensures))
