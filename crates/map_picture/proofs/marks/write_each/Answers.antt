use Rattle.std.proofs.Common.{◌+◌}
use Rattle.std.proofs.lemmas.Result.{err_from_is_err_and}
use Rattle.line_io.proofs.WriteProgressLemmas.{SoFar-end, SoFar-more, SoFar-stop}
use Rattle.map_picture.specs.Marks.{mark_part}
use Rattle.map_picture.proofs.MarkLemmas.{code-end, code-next, code-none, code_marks_from}
use Rattle.map_picture.proofs.marks.write_each.Goals as goal

pub finds-init : goal.finds-init
finds-init g c = record { sound = c.requires; so_far = λ found are. code-none c.args.counted.now c.args.code found (g.W.Sink.state c.args.out.now) }

pub returns-in_err-write_part-clause-text : goal.returns-in_err-write_part-clause-text
returns-in_err-write_part-clause-text g c =
    let p = err_from_is_err_and c.from_residual.result c.from_residual.ensures.1 in
    let level = c.args.counted.now in
    let code = c.args.code in
    let at = c.in-Some.index in
    let wrote = rw c.level-level.ensures at c.in_err-write_part.ensures in
    rw (p.1, p.2) (λ found are.
    SoFar-stop (mark_part level (record { code = code; index = at })) (code_marks_from level code (at + 1) found) (c.finds.invariant.so_far found are)
    (code-next level code found are c.finds.from at c.in-Some.ensures.some) wrote)

pub finds-preserved : goal.finds-preserved
finds-preserved g c =
    let level = c.args.counted.now in
    let code = c.args.code in
    let at = c.in-Some.index in
    let wrote = rw c.level-level.ensures at c.in_ok-write_part.ensures in
    record {
      sound = wrote.ends.sound;
      so_far = λ found are.
          SoFar-more _ (mark_part level (record { code = code; index = at })) (code_marks_from level code (at + 1) found) (c.finds.invariant.so_far found are)
          (code-next level code found are c.finds.from at c.in-Some.ensures.some) wrote.takes.whole;
    }

pub returns-clause-text : goal.returns-clause-text
returns-clause-text g c = λ found are.
    SoFar-end tt (c.finds.invariant.so_far found are) (code-end c.args.counted.now c.args.code found are c.finds.from c.in_default.ensures.none)
    c.finds.invariant.sound
