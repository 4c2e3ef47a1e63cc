use Rattle.std.proofs.Common.{◌≡◌, ℕ, ◌-◌, ◌<◌, ◌≤◌}
use Rattle.std.specs.List.{slice_get}
use Rattle.wad_dir.specs.Entries.{names}
use Rattle.map_level.specs.LinkFaults.{usual_names}
use Rattle.map_sketch.proofs.own.is_usual.Given as goal

abbrev pub invariant-loop-place : goal.invariant-loop-place
invariant-loop-place g l = (p : ℕ) → 1 ≤ p → p < l.place → ¬ (slice_get (names l.set) l.fn.g ≡ slice_get usual_names (p - 1))
