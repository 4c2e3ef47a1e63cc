use Rattle.std.proofs.Common.{◌+◌, [], arith, drop}
use Rattle.std.proofs.lemmas.Result.{err_from_is_err_and}
use Rattle.std.specs.Prelude.{slice_index_or}
use Rattle.line_io.proofs.WriteProgressLemmas.{SoFar-end, SoFar-more, SoFar-stop}
use Rattle.lens_texts.specs.Parts.{joined}
use Rattle.lens_texts.proofs.PartsLemmas.{parts-drop, parts_past}
use Rattle.lens_texts.proofs.parts.write_parts.Goals as goal

pub returns-in_err-write : goal.returns-in_err-write
returns-in_err-write g c =
    let p = err_from_is_err_and c.from_residual.result c.from_residual.ensures.1 in
    let i = c.parts.number in
    let parts = g.P.TextParts.parts c.args.text.now in
    rw (p.1, p.2) (SoFar-stop (slice_index_or parts i []) (joined (drop (i + 1) parts)) c.parts.invariant.so_far
    (parts-drop parts i (omega (arith, c.count-number-end.ensures, c.parts-test.true))) c.in_err-write.ensures)

pub parts-preserved : goal.parts-preserved
parts-preserved g c =
    let i = c.parts.number in
    let parts = g.P.TextParts.parts c.args.text.now in
    record {
      sound = c.in_ok-write.ensures.ends.sound;
      so_far = SoFar-more _ (slice_index_or parts i []) (joined (drop (i + 1) parts)) c.parts.invariant.so_far
          (parts-drop parts i (omega (arith, c.count-number-end.ensures, c.parts-test.true))) c.in_ok-write.ensures.takes.whole;
    }

pub returns : goal.returns
returns g c =
    let parts = g.P.TextParts.parts c.args.text.now in
    SoFar-end tt c.parts.invariant.so_far (parts_past parts c.parts.number (omega (arith, c.count-number-end.ensures, c.parts-test.false))) c.parts.invariant.sound
