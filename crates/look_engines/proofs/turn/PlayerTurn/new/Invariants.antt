use Rattle.std.proofs.Common.{◌≡◌, ◌≤◌, length, take}
use Rattle.demo_lump.specs.Header.{players_in}
use Rattle.look_engines.specs.Turn.{seats_from}
use Rattle.look_engines.proofs.turn.PlayerTurn.new.Given as goal

abbrev pub invariant-loop-i : goal.invariant-loop-i
invariant-loop-i l = record {
  long : length l.seats ≡ 4;
  few : l.count ≤ l.i;
  counted : l.count ≡ players_in (take l.i l.players);
  seats : take l.count l.seats ≡ seats_from 1 (take l.i l.players);
}
