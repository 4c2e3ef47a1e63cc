use Rattle.std.proofs.Common.{◌≡◌}
use Rattle.wad_dir.specs.Entries.{names}
use Rattle.workloads.proofs.jobs.draw_levels.Given as goal

abbrev pub invariant-levels : goal.invariant-levels
invariant-levels l = l.start-iterator.names ≡ names l.set
