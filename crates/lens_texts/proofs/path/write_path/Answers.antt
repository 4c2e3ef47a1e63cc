use Rattle.std.proofs.Common.{◌≡◌, ◌+◌, ◌-◌, ◌++◌, drop, get_or, length, take, sym, ◌∙◌, true, false, arith}
use Rattle.std.proofs.lemmas.Result.{err_from_is_err_and}
use Rattle.line_io.proofs.WriteProgressLemmas.{SoFar-more, SoFar-stop}
use Rattle.lens_texts.specs.ShownPath.{control_text, is_control_at}
use Rattle.lens_texts.proofs.PathLemmas.{path-plain, unwritten, unwritten-byte, unwritten-control, unwritten-end}
use Rattle.lens_texts.proofs.WritingLemmas.{SoFar-last}
use Rattle.lens_texts.proofs.path.write_path.Goals.{then-is_control_at+in_ok-write_run, else-is_control_at}
use Rattle.lens_texts.proofs.path.write_path.Goals as goal

pub returns-then-is_none : goal.returns-then-is_none
returns-then-is_none g c = rw (path-plain c.args.path.now (rw c.first_suspect.ensures at c.if-is_none.ensures)) c.emit.ensures

pub returns-in_err-write_run : goal.returns-in_err-write_run
returns-in_err-write_run g c =
    let p = err_from_is_err_and c.from_residual.result c.from_residual.ensures.1 in
    let path = c.args.path.now in
    let from = c.bytes.from in
    let at = c.bytes.at in
    let control : is_control_at path at ≡ true = sym c.is_control_at.ensures ∙ c.if-is_control_at.true in
    rw (p.1, p.2) (SoFar-stop (take (at - from) (drop from path) ++ control_text (get_or path at 0)) (unwritten path (at + 1) (at + 1))
    c.bytes.invariant.so_far (unwritten-control path from at c.bytes-test.true control) c.in_err-write_run.ensures)

pub bytes-preserved : goal.bytes-preserved
bytes-preserved g c =
    let path = c.args.path.now in
    let from = c.bytes.from in
    let at = c.bytes.at in
    elim c.if-is_control_at.branch [
      | then-is_control_at+in_ok-write_run w ↦
          let control : is_control_at path at ≡ true = sym c.is_control_at.ensures ∙ w.if-is_control_at.true in
          rw (w.out-is, w.from-is) (record {
            sound = w.in_ok-write_run.ensures.ends.sound;
            ordered = omega arith;
            so_far = SoFar-more _ (take (at - from) (drop from path) ++ control_text (get_or path at 0)) (unwritten path (at + 1) (at + 1))
                c.bytes.invariant.so_far (unwritten-control path from at c.bytes-test.true control) w.in_ok-write_run.ensures.takes.whole;
          })
      | else-is_control_at w ↦
          let plain : is_control_at path at ≡ false = sym c.is_control_at.ensures ∙ w.if-is_control_at.false in
          let ordered = c.bytes.invariant.ordered in
          rw (w.out-is, w.from-is) (record {
            sound = c.bytes.invariant.sound;
            ordered = omega (arith, ordered);
            so_far = rw (← unwritten-byte path from at ordered c.bytes-test.true plain) c.bytes.invariant.so_far;
          })
    ]

pub returns : goal.returns
returns g c =
    let path = c.args.path.now in
    let end : c.bytes.at ≡ length path = omega (arith, c.bytes.auto.at-end, c.bytes-test.false) in
    SoFar-last (rw end at c.bytes.invariant.so_far) (unwritten-end path c.bytes.from) c.emit-2.ensures
