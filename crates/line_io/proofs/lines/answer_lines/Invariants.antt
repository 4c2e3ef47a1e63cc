use Rattle.std.proofs.Common.{◌≡◌, ◌≤◌, false}
use Rattle.line_io.proofs.ProgressLemmas.{Progress}
use Rattle.line_io.proofs.lines.answer_lines.Given as goal

abbrev pub invariant-turns : goal.invariant-turns
invariant-turns g l = record {
  same : l.command ≡ l.fn.command;
  source_sound : (g.S.Source.state l.input).failed ≡ false;
  sink_sound : (g.W.Sink.state l.out).failed ≡ false;
  turns : l._turn ≤ l.read;
  within : l.read ≤ l.limit;
  so_far : Progress (g.C.LineCommand.Answers l.fn.command) l.read (g.S.Source.state l.fn.input)
      (g.S.Source.state l.input) (g.W.Sink.state l.fn.out) (g.W.Sink.state l.out) l.part;
}
