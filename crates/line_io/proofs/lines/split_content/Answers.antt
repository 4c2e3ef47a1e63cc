use Rattle.line_io.proofs.FrontLemmas.{BeginsWith-line}
use Rattle.line_io.proofs.lines.split_content.Goals as goal

pub returns : goal.returns
returns c =
    rw c.content_of-content.ensures
    (BeginsWith-line c.args.bytes.now c.in_ok-line.line.now _ c.in_ok-line.ensures.0 c.in_ok-line.ensures.1
    (rw c.content_of-content.ensures at c.if-content-gt-MAX_CONTENT.false))
