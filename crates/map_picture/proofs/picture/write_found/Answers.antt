use Rattle.std.proofs.lemmas.Result.{err_from_is_err_and}
use Rattle.line_io.proofs.WriteLemmas.{Writes-stop, Writes-then}
use Rattle.map_picture.specs.Marks.{marks}
use Rattle.lens_texts.specs.Parts.{joined}
use Rattle.map_picture.specs.Picture.{last_parts}
use Rattle.map_picture.proofs.picture.write_found.Goals as goal

pub returns-in_err-write_marks : goal.returns-in_err-write_marks
returns-in_err-write_marks g c =
    let p = err_from_is_err_and c.from_residual.result c.from_residual.ensures.1 in
    rw (p.1, p.2) (λ found are. Writes-stop (joined (last_parts c.args.counted.now c.args.marked.now)) (c.in_err-write_marks.ensures.text found are))

pub returns : goal.returns
returns g c =
    let last = rw c.level-level.ensures at c.write_parts.ensures in
    λ found are. Writes-then (g.W.Sink.state c.args.out.now) (g.W.Sink.state c.write_marks.new.out) (g.W.Sink.state c.write_parts.new.out) (marks c.args.counted.now found) c.write_parts.result (c.in_ok-write_marks.ensures.text found are).takes.whole last
