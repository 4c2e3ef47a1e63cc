use Rattle.std.proofs.Common.{◌≡◌, ℕ, ◌<◌, ◌≤◌, get_or}
use Rattle.lens_engines.proofs.warned.have_references.Given as goal

-- none of the codes so far is counted
abbrev pub invariant-loop-rank : goal.invariant-loop-rank
invariant-loop-rank l = (k : ℕ) → 2 ≤ k → k < l.rank → get_or l.counts k 0 ≡ 0
