use Rattle.std.proofs.Common.{◌≡◌, ℕ, ◌-◌, ◌<◌, ◌≤◌}
use Rattle.std.specs.List.{slice_get}
use Rattle.map_cells.proofs.seen.Seen.same_end.Given as goal

abbrev pub invariant-loop-k : goal.invariant-loop-k
invariant-loop-k g l = record {
  after : l.fn.from < l.k;
  same : (n : ℕ) → l.fn.from ≤ n → n < l.k → slice_get l.self n ≡ slice_get l.self l.fn.from;
}

abbrev pub decreases-loop-k : goal.decreases-loop-k
decreases-loop-k g l = l.fn.to - l.k
