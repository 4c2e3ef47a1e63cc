use Rattle.std.proofs.Common.{◌≡◌, [], ◌-◌}
use Rattle.std.proofs.lemmas.Option.{get_or_from_slice_get}
use Rattle.std.proofs.lemmas.Result.{err_from_is_err_and}
use Rattle.line_io.proofs.WriteLemmas.{Writes-stop}
use Rattle.map_level.specs.LinkFaults.{usual_names}
use Rattle.lens_texts.specs.LevelObject.{name_string, usual_name}
use Rattle.lens_texts.proofs.WritingLemmas.{Writes-after}
use Rattle.lens_texts.proofs.level_object.write_lump.Goals as goal

pub returns-in_err-emit : goal.returns-in_err-emit
returns-in_err-emit g c =
    let p = err_from_is_err_and c.from_residual.result c.from_residual.ensures.1 in
    rw (p.1, p.2) (Writes-stop (name_string (usual_name c.args.k)) c.in_err-emit.ensures)

pub returns : goal.returns
returns g c =
    let named : usual_name c.args.k ≡ c.usual_name.result = get_or_from_slice_get usual_names (c.args.k - 1) c.usual_name.result [] c.usual_name.ensures in
    rw named (Writes-after c.in_ok-emit.ensures c.write_name.ensures)
