use Rattle.std.proofs.Common.{arith, refl}
use Rattle.demo_engines.proofs.header_line.take_header.Goals as goal

pub returns-in-Some-clause-fits : goal.returns-in-Some-clause-fits
returns-in-Some-clause-fits c = record {
  numbers = c.guess_header-header.ensures.bytes;
  version = c.if-not-is_version.ensures.0 refl;
  long = c.guess_header-header.ensures.long;
  some = omega (arith, c.count_players.ensures, c.if-count_players-eq0.false);
}
