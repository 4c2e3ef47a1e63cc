use Rattle.std.proofs.Common.{◌≡◌, ◌-◌}
use Rattle.later_levels.proofs.LineLemmas.{first_from}
use Rattle.later_levels.proofs.sectors.first_line.Given as goal

abbrev pub invariant-loop-i : goal.invariant-loop-i
invariant-loop-i l =
    first_from l.nodes.segs l.i (l.i-end - l.i) ≡ first_from l.nodes.segs l.first (l.i-end - l.first)
