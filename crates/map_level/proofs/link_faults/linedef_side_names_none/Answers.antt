use Rattle.std.proofs.Common.{rules}
use Rattle.std.proofs.lemmas.Int.{to_z-of_z}
use Rattle.std.specs.Int.{w16}
use Rattle.std.specs.Prelude.{FitsSigned}
use Rattle.map_level.proofs.FindingLemmas.{by_first, by_second}
use Rattle.map_level.proofs.link_faults.linedef_side_names_none.Goals as goal

pub returns-then-side_names_none : goal.returns-then-side_names_none
returns-then-side_names_none c =
    let side0 : FitsSigned w16 c.in-Some.linedef.side0 = search rules in
    let first = simp to_z-of_z at c.side_names_none.ensures in
    rw (← c.in-Some.ensures) (by_first first c.if-side_names_none.true)

pub returns-else-side_names_none : goal.returns-else-side_names_none
returns-else-side_names_none c =
    let side0 : FitsSigned w16 c.in-Some.linedef.side0 = search rules in
    let side1 : FitsSigned w16 c.in-Some.linedef.side1 = search rules in
    let first = simp to_z-of_z at c.side_names_none.ensures in
    let second = simp to_z-of_z at c.side_names_none-else-side_names_none.ensures in
    rw (← c.in-Some.ensures) (by_second first c.if-side_names_none.false second)
