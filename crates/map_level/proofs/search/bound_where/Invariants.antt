use Rattle.std.proofs.Common.{ℕ, ◌<◌, false}
use Rattle.map_level.proofs.search.bound_where.Given as goal

abbrev pub invariant-loop-index : goal.invariant-loop-index
invariant-loop-index g l = (i : ℕ) → i < l.index → goal.F-post g l.test i false
