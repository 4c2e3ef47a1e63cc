use Rattle.std.proofs.Common.{◌≡◌, ◌++◌, length, false, drop}
use Rattle.line_io.proofs.WriteProgressLemmas.{SoFar}
use Rattle.look_engines.specs.Listing.{ticcmds_text, listing, totals_text}
use Rattle.look_engines.proofs.engines.demo.write_demo.Given as goal

abbrev pub invariant-commands : goal.invariant-commands
invariant-commands g l = record {
  sound : (g.W.Sink.state l.out).failed ≡ false;
  turn : l.turn ≡ record { players = l.demo.header.players; index = l.i };
  so_far : SoFar (listing l.demo) (g.W.Sink.state l.fn.out) (g.W.Sink.state l.out)
      (ticcmds_text l.demo.header.players l.i (drop l.i l.demo.commands) ++ totals_text l.demo.header.players (length l.demo.commands) l.demo.after);
}
