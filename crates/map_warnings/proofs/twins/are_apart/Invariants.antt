use Rattle.std.proofs.Common.{◌≢◌, ◌-◌, ◌<◌, ℕ}
use Rattle.std.specs.Prelude.{slice_index_or}
use Rattle.map_warnings.proofs.twins.are_apart.Given as goal

abbrev pub invariant-loop-k : goal.invariant-loop-k
invariant-loop-k l = (j : ℕ) → 0 < j → j < l.k → slice_index_or l.numbers (j - 1) 0 ≢ slice_index_or l.numbers j 0
