use Rattle.std.proofs.Common.{◌≡◌, ◌++◌, rules}
use Rattle.std.proofs.lemmas.Result.{err_from_is_err_and}
use Rattle.line_io.proofs.WriteLemmas.{Writes-stop}
use Rattle.lens_texts.specs.Remark.{remark_code, remark_index}
use Rattle.lens_texts.specs.RemarkLine.{body_text, lead_text}
use Rattle.lens_texts.proofs.WritingLemmas.{Writes-after, Writes-later}
use Rattle.lens_texts.proofs.lines.write_remark_line.Goals as goal

pub returns-in_err-write_heading : goal.returns-in_err-write_heading
returns-in_err-write_heading g c =
    let p = err_from_is_err_and c.from_residual.result c.from_residual.ensures.1 in
    let level = c.args.level.now in
    let remark = c.args.remark in
    rw (p.1, p.2) (Writes-stop (lead_text level (remark_code remark) (remark_index remark) ++ body_text level remark) c.in_err-write_heading.ensures)

pub returns-in_err-emit : goal.returns-in_err-emit
returns-in_err-emit g c =
    let p = err_from_is_err_and c.from_residual-in_err-emit.result c.from_residual-in_err-emit.ensures.1 in
    let level = c.args.level.now in
    let remark = c.args.remark in
    let lead : c.as_bytes.result.now ≡ lead_text level (remark_code remark) (remark_index remark) = search rules in
    rw (p.1, p.2) (Writes-later c.in_ok-write_heading.ensures (Writes-stop {U = Unit {0}} (body_text level remark) (rw lead at c.in_err-emit.ensures)))

pub returns : goal.returns
returns g c =
    let level = c.args.level.now in
    let remark = c.args.remark in
    let lead : c.as_bytes.result.now ≡ lead_text level (remark_code remark) (remark_index remark) = search rules in
    Writes-after c.in_ok-write_heading.ensures (Writes-after (rw lead at c.in_ok-emit.ensures) c.write_body.ensures)
