use Rattle.std.proofs.Common.{◌-◌, ◌^◌, ◌≤◌}
use Rattle.lens_engines.proofs.CountLemmas.{IsCountBelow}
use Rattle.lens_engines.proofs.counts.count_code.Given as goal

abbrev pub invariant-finds : goal.invariant-finds
invariant-finds g l = record {
  few : l.count ≤ l.from;
  so_far : IsCountBelow (g.T.Searched.holds l.searched l.code) l.from l.count;
}

abbrev pub decreases-finds : goal.decreases-finds
decreases-finds g l = 2 ^ 32 - l.from
