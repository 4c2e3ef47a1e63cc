use Rattle.std.proofs.Common.{ℕ, ◌≤◌, ◌≢◌, Some}
use Rattle.std.specs.List.{slice_get}
use Rattle.map_tables.proofs.words.Words.reach.Given as goal

abbrev pub invariant-loop-i : goal.invariant-loop-i
invariant-loop-i l = (k : ℕ) → l.i ≤ k → slice_get l.self.numbers k ≢ Some l.self.end
