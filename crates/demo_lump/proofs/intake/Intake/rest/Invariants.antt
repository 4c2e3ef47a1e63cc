use Rattle.std.proofs.Common.{◌≡◌, ◌-◌, ◌≤◌, false, List, ℕ, Option, length}
use Rattle.std.specs.Io.KnownBytes.{Consumes}
use Rattle.demo_lump.proofs.intake.Intake.rest.Given as goal

-- what was read, while it is counted
pub record Counts (left left' : Option (List ℕ)) (count : ℕ) : Type 0 where
  pub read : List ℕ
  pub given : Consumes left left' read
  pub counted : length read ≡ count

abbrev pub invariant-turns : goal.invariant-turns
invariant-turns g l = record {
  turns : l._turn ≤ l.self.taken;
  sound : (g.S.Source.state l.source).failed ≡ false;
  limit : l.self.limit ≡ l.fn.self.limit;
  more : l.before ≤ l.self.taken;
  start : l.before ≡ l.fn.self.taken;
  within : l.self.taken ≤ l.self.limit;
  so_far : Counts (g.S.Source.state l.fn.source).left (g.S.Source.state l.source).left
      (l.self.taken - l.before);
}
