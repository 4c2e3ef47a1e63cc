use Rattle.lens_texts.specs.LevelObject.{broken_member}
use Rattle.std.proofs.lemmas.Result.{err_from_is_err_and}
use Rattle.line_io.proofs.WriteLemmas.{Writes-stop}
use Rattle.lens_texts.proofs.WritingLemmas.{Writes-after}
use Rattle.lens_texts.proofs.level_object.write_nodes.Goals as goal

pub returns-in_err-write_tag : goal.returns-in_err-write_tag
returns-in_err-write_tag g c =
    let p = err_from_is_err_and c.from_residual.result c.from_residual.ensures.1 in
    rw (p.1, p.2) (Writes-stop (broken_member c.args.why) c.in_err-write_tag.ensures)

pub returns : goal.returns
returns g c = Writes-after c.in_ok-write_tag.ensures c.write_why.ensures
