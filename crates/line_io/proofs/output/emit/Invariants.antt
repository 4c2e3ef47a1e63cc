use Rattle.std.proofs.Common.{◌≡◌, ◌-◌, ◌≤◌, false, length, take}
use Rattle.std.specs.Io.KnownBytes.{Appends}
use Rattle.line_io.proofs.output.emit.Given as goal

abbrev pub invariant-loop-sent : goal.invariant-loop-sent
invariant-loop-sent g l = record {
  sound : (g.W.Sink.state l.out).failed ≡ false;
  within : l.sent ≤ length l.bytes;
  taken : Appends (g.W.Sink.state l.initial.out).taken (g.W.Sink.state l.out).taken
      (take l.sent l.bytes);
}

abbrev pub decreases-loop-sent : goal.decreases-loop-sent
decreases-loop-sent g l = length l.bytes - l.sent
