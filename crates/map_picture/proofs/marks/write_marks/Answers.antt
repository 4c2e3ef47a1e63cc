use Rattle.std.proofs.Common.{◌≡◌, ◌+◌, ◌++◌, get_or, subst, arith}
use Rattle.std.proofs.lemmas.Result.{err_from_is_err_and}
use Rattle.line_io.proofs.WriteProgressLemmas.{SoFar-end, SoFar-more, SoFar-stop}
use Rattle.map_level.proofs.FindingLemmas.{all_codes, rank_at}
use Rattle.map_level.specs.declared.finding.Code.TheVariants.{F1}
use Rattle.map_picture.specs.Marks.{code_marks}
use Rattle.map_picture.proofs.MarkLemmas.{marks-end, marks-next, marks-none, marks_from}
use Rattle.map_picture.proofs.marks.write_marks.Goals as goal

pub codes-init : goal.codes-init
codes-init g c = record { sound = c.requires; so_far = λ found are. marks-none c.args.counted.now found (g.W.Sink.state c.args.out.now) }

pub returns-in_err-write_code-clause-text : goal.returns-in_err-write_code-clause-text
returns-in_err-write_code-clause-text g c =
    let p = err_from_is_err_and c.from_residual.result c.from_residual.ensures.1 in
    let level = c.args.counted.now in
    let i = c.codes.code-index in
    let code = get_or all_codes i F1 in
    rw (p.1, p.2) (λ found are.
    SoFar-stop (code_marks level code found) (marks_from level (i + 1) found) (c.codes.invariant.so_far found are)
    (subst (λ n. marks_from level n found ≡ code_marks level code found ++ marks_from level (n + 1) found) (rank_at i F1 (omega arith))
    (marks-next level code found are.ascending))
    (c.in_err-write_code.ensures.text found are))

pub codes-preserved : goal.codes-preserved
codes-preserved g c =
    let level = c.args.counted.now in
    let i = c.codes.code-index in
    let code = get_or all_codes i F1 in
    record {
      sound = c.in_ok-write_code.ensures.ends.sound;
      so_far = λ found are.
          SoFar-more _ (code_marks level code found) (marks_from level (i + 1) found) (c.codes.invariant.so_far found are)
          (subst (λ n. marks_from level n found ≡ code_marks level code found ++ marks_from level (n + 1) found) (rank_at i F1 (omega arith))
          (marks-next level code found are.ascending))
          (c.in_ok-write_code.ensures.text found are).takes.whole;
    }

pub returns-clause-text : goal.returns-clause-text
returns-clause-text g c = λ found are.
    SoFar-end tt (c.codes.invariant.so_far found are) (marks-end c.args.counted.now c.codes.code-index found (omega arith)) c.codes.invariant.sound
