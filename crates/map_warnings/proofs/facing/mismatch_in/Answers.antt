use Rattle.std.proofs.Common.{rules}
use Rattle.std.specs.Prelude.{FitsSigned}
use Rattle.std.specs.Int.{w16, w32}
use Rattle.std.proofs.lemmas.Int.{to_z-of_z}
use Rattle.map_warnings.proofs.facing.mismatch_in.Goals as goal

pub returns-clause-none : goal.returns-clause-none
returns-clause-none c =
    let first : FitsSigned w16 c.args.ssector.now.first = search rules in
    let count : FitsSigned w16 c.args.ssector.now.count = search rules in
    let from : FitsSigned w32 c.number.result = search rules in
    let many : FitsSigned w32 c.number-2.result = search rules in
    let told = simp to_z-of_z at c.mismatch_at.ensures.none in
    let one = simp to_z-of_z at c.number.ensures.value in
    let two = simp to_z-of_z at c.number-2.ensures.value in
    rw (one, two, c.reading-reading.ensures) at told
