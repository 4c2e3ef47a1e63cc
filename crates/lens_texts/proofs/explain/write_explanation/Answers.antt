use Rattle.std.proofs.Common.{◌≡◌, ◌++◌, ap, rules}
use Rattle.std.proofs.lemmas.Result.{err_from_is_err_and}
use Rattle.line_io.proofs.WriteLemmas.{Writes-stop}
use Rattle.level_codes.specs.Explanations.{Explained, explanation_of}
use Rattle.lens_texts.specs.Explain.{head_text}
use Rattle.lens_texts.proofs.WritingLemmas.{Writes-after}
use Rattle.lens_texts.proofs.explain.write_explanation.Goals as goal

pub returns-in_err-write_both : goal.returns-in_err-write_both
returns-in_err-write_both g c =
    let p = err_from_is_err_and c.from_residual.result c.from_residual.ensures.1 in
    let all = explanation_of c.args.code in
    let head : c.as_bytes.result.now ≡ head_text c.args.code = search rules in
    let what = ap (λ (e : Explained). e.what) c.explanation-explanation.ensures in
    rw (p.1, p.2) (Writes-stop (all.game ++ all.cure) (rw (head, what) at c.in_err-write_both.ensures))

pub returns : goal.returns
returns g c =
    let head : c.as_bytes.result.now ≡ head_text c.args.code = search rules in
    let what = ap (λ (e : Explained). e.what) c.explanation-explanation.ensures in
    let game = ap (λ (e : Explained). e.game) c.explanation-explanation.ensures in
    let cure = ap (λ (e : Explained). e.cure) c.explanation-explanation.ensures in
    Writes-after (rw (head, what) at c.in_ok-write_both.ensures) (rw (game, cure) at c.write_both-2.ensures)
