use Rattle.std.proofs.Common.{ℕ, ◌<◌, ◌≤◌}
use Rattle.map_level.proofs.search.first_where.Given as goal

abbrev pub invariant-loop-index : goal.invariant-loop-index
invariant-loop-index g l = (i : ℕ) → l.from ≤ i → i < l.index → ¬ g.T.Searched.holds l.searched l.fn.code i
