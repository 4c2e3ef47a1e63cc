use Rattle.std.proofs.Common.{◌≡◌, ◌+◌, length, false}
use Rattle.later_demos.specs.Header.{players_of}
use Rattle.line_io.proofs.WriteProgressLemmas.{SoFar}
use Rattle.demo_listings.specs.Listing.{commands_text}
use Rattle.demo_listings.proofs.listing.write_commands.Given as goal

abbrev pub invariant-commands : goal.invariant-commands
invariant-commands g l = record {
  sound : (g.W.Sink.state l.out).failed ≡ false;
  turn : l.turn ≡ record { players = players_of l.demo.layout l.demo.header; index = l._index };
  counted : l._index + length l.left ≡ length l.demo.commands;
  so_far : SoFar (commands_text (players_of l.demo.layout l.demo.header) 0 l.demo.commands) (g.W.Sink.state l.fn.out) (g.W.Sink.state l.out)
      (commands_text (players_of l.demo.layout l.demo.header) l._index l.left);
}
