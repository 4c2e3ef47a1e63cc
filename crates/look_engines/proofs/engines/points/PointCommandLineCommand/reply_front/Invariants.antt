use Rattle.std.proofs.Common.{◌≡◌, [], false, length}
use Rattle.line_io.proofs.BlockLemmas.{Answered}
use Rattle.look_engines.specs.Engines.Points.{TellsPoints}
use Rattle.look_engines.proofs.engines.points.PointCommandLineCommand.reply_front.Given as goal

abbrev pub invariant-fours : goal.invariant-fours
invariant-fours g l = record {
  sound : (g.W.Sink.state l.out).failed ≡ false;
  so_far : Answered (TellsPoints l.fn.self.tree) [] l.block (g.W.Sink.state l.fn.out) [] l.rest (g.W.Sink.state l.out);
}

abbrev pub decreases-fours : goal.decreases-fours
decreases-fours g l = length l.rest
