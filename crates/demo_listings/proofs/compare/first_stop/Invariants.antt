use Rattle.std.proofs.Common.{◌≡◌}
use Rattle.demo_listings.proofs.CommandLemmas.{SoSame}
use Rattle.demo_listings.proofs.compare.first_stop.Given as goal

abbrev pub invariant-commands : goal.invariant-commands
invariant-commands l = record {
  turn : l.turn ≡ record { players = l.fn.turn.players; index = l._index };
  same : SoSame l.what l.a l.b l._index l.left_of_a l.left_of_b;
}
