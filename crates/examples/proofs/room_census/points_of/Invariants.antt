use Rattle.std.proofs.Common.{◌≢◌, ℕ, ◌<◌, Some}
use Rattle.std.specs.List.{slice_get}
use Rattle.examples.proofs.room_census.points_of.Given as goal

abbrev pub invariant-loop-number : goal.invariant-loop-number
invariant-loop-number g l = (i n : ℕ) → i < l.number → slice_get l.counts.pairs i ≢ Some (l.sector, n)
