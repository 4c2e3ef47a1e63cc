use Rattle.std.proofs.Common.{◌≡◌, ◌+◌, ◌≤◌, false, length, take}
use Rattle.std.specs.Io.KnownBytes.{Consumes}
use Rattle.demo_lump.proofs.intake.Intake.fill.Given as goal

abbrev pub invariant-turns : goal.invariant-turns
invariant-turns g l = record {
  turns : l._turn ≤ l.filled;
  sound : (g.S.Source.state l.source).failed ≡ false;
  room : l.filled ≤ length l.buf;
  limit : l.self.limit ≡ l.fn.self.limit;
  within : l.self.taken ≤ l.self.limit;
  counted : l.self.taken ≡ l.fn.self.taken + l.filled;
  given : Consumes (g.S.Source.state l.fn.source).left (g.S.Source.state l.source).left
      (take l.filled l.buf);
}
