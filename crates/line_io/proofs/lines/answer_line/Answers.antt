use Rattle.std.proofs.Common.{◌<◌, ◌≤◌, length, arith, ap, inl, refl}
use Rattle.line_io.specs.Lines.{content}
use Rattle.line_io.proofs.LineLemmas.{line_answer_long, line_answer_short}
use Rattle.line_io.proofs.lines.answer_line.Goals as goal

pub returns-then-content-gt-MAX_CONTENT : goal.returns-then-content-gt-MAX_CONTENT
returns-then-content-gt-MAX_CONTENT g c =
    let long : 64 < length (content c.args.line.now) =
    omega (arith, ap length c.content_of-content.ensures) in
    record {
      takes = λ f told. rw (line_answer_long f c.args.line.now long) (rw c.text.ensures at c.emit.ensures.takes);
      ends = inl c.emit.ensures.ends;
      same = refl;
    }

pub returns-else-content-gt-MAX_CONTENT : goal.returns-else-content-gt-MAX_CONTENT
returns-else-content-gt-MAX_CONTENT g c =
    let short : length (content c.args.line.now) ≤ 64 =
    omega (arith, ap length c.content_of-content.ensures) in
    record {
      takes =
          λ f told.
          rw (
            line_answer_short f c.args.line.now short,
            ← c.content_of-content.ensures,
          ) (c.reply.ensures.takes f told);
      ends = c.reply.ensures.ends;
      same = c.reply.ensures.same;
    }
