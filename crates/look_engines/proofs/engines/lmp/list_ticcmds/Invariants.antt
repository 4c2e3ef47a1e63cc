use Rattle.std.proofs.Common.{◌≡◌, ◌≤◌, false}
use Rattle.look_engines.proofs.engines.LmpCommandsLemmas.{Listed}
use Rattle.look_engines.proofs.engines.lmp.list_ticcmds.Given as goal

abbrev pub invariant-commands : goal.invariant-commands
invariant-commands g l = record {
  source : (g.S.Source.state l.input).failed ≡ false;
  sink : (g.W.Sink.state l.out).failed ≡ false;
  state : l.reader ≡ record l.fn.reader { taken = l.reader.taken };
  within : l.reader.taken ≤ l.limit;
  turn : l.turn ≡ record { players = l.header.players; index = l._turn };
  listed : Listed l.header l.fn.reader.taken (g.S.Source.state l.fn.input) (g.S.Source.state l.input) l.reader.taken (g.W.Sink.state l.fn.out) (g.W.Sink.state l.out) l._turn;
}
