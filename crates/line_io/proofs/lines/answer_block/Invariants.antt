use Rattle.std.proofs.Common.{◌≡◌, false, length}
use Rattle.line_io.proofs.BlockLemmas.{Answered}
use Rattle.line_io.proofs.lines.answer_block.Given as goal

abbrev pub invariant-lines : goal.invariant-lines
invariant-lines g l = record {
  same : l.command ≡ l.fn.command;
  sound : (g.W.Sink.state l.out).failed ≡ false;
  so_far : Answered (g.C.LineCommand.Answers l.fn.command) l.fn.part l.block
      (g.W.Sink.state l.fn.out) l.part l.rest (g.W.Sink.state l.out);
}

abbrev pub decreases-lines : goal.decreases-lines
decreases-lines g l = length l.rest
