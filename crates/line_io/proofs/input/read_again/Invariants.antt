use Rattle.std.proofs.Common.{◌≡◌, ◌≤◌, false, vec_len}
use Rattle.std.specs.Io.KnownBytes.{Consumes}
use Rattle.line_io.proofs.input.read_again.Given as goal

abbrev pub invariant-turns : goal.invariant-turns
invariant-turns g l = record {
  sound : (g.S.Source.state l.input).failed ≡ false;
  turns : l._turn ≤ vec_len l.bytes;
  within : vec_len l.bytes ≤ l.limit;
  given : Consumes (g.S.Source.state l.fn.input).left (g.S.Source.state l.input).left l.bytes.items;
}
