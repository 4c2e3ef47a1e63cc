use Rattle.std.proofs.Common.{arith, pos}
use Rattle.std.specs.Prelude.{◌≤ℤ◌}
use Rattle.std.proofs.lemmas.Int.{ints, to_z-of_z}
use Rattle.map_warnings.proofs.FacingLemmas.{pos-abs}
use Rattle.map_warnings.proofs.facing.mismatch_at.Goals as goal

pub returns-clause-none : goal.returns-clause-none
returns-clause-none c =
    let first = c.ranges.first in
    let count = c.ranges.count in
    let from : pos 0 ≤ℤ c.args.first = grind (arith, ints, c.if-first-lt0.false) in
    let many : pos 0 ≤ℤ c.args.count = grind (arith, ints, c.if-count-lt0.false) in
    let told = simp to_z-of_z at c.mismatch_from.ensures.none in
    rw (pos-abs c.args.first from, pos-abs c.args.count many) at told
