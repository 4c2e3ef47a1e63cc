use Rattle.std.specs.Prelude.{codes}
use Rattle.std.proofs.Common.{◌++◌}
use Rattle.lens_engines.specs.Objects.{found_members, warnings_member}
use Rattle.lens_engines.specs.Unlooked.{unlooked_member}
use Rattle.std.proofs.lemmas.Result.{err_from_is_err_and}
use Rattle.line_io.proofs.WriteLemmas.{Writes-stop}
use Rattle.lens_texts.proofs.WritingLemmas.{Writes-after}
use Rattle.lens_engines.proofs.object.write_doom.Goals as goal

pub returns-in_err-write_lumps : goal.returns-in_err-write_lumps
returns-in_err-write_lumps g c =
    let p = err_from_is_err_and c.from_residual.result c.from_residual.ensures.1 in
    rw (p.1, p.2) (Writes-stop (found_members c.args.counted.now.counts ++ (warnings_member c.args.counted.now.warnings c.args.counted.now.counts ++ (unlooked_member c.args.counted.now.unlooked ++ codes "}\n"))) c.in_err-write_lumps.ensures)

pub returns : goal.returns
returns g c = Writes-after c.in_ok-write_lumps.ensures c.write_end.ensures
