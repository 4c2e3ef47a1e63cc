use Rattle.std.proofs.Common.{rules}
use Rattle.std.proofs.lemmas.Int.{to_z-of_z}
use Rattle.std.specs.Int.{w16}
use Rattle.std.specs.Prelude.{FitsSigned}
use Rattle.map_level.proofs.FindingLemmas.{by_first, by_second}
use Rattle.map_level.proofs.link_faults.linedef_vertex_names_none.Goals as goal

pub returns-then-names_no_vertex : goal.returns-then-names_no_vertex
returns-then-names_no_vertex c =
    let v1 : FitsSigned w16 c.in-Some.linedef.v1 = search rules in
    let first = simp to_z-of_z at c.names_no_vertex.ensures in
    rw (← c.in-Some.ensures) (by_first first c.if-names_no_vertex.true)

pub returns-else-names_no_vertex : goal.returns-else-names_no_vertex
returns-else-names_no_vertex c =
    let v1 : FitsSigned w16 c.in-Some.linedef.v1 = search rules in
    let v2 : FitsSigned w16 c.in-Some.linedef.v2 = search rules in
    let first = simp to_z-of_z at c.names_no_vertex.ensures in
    let second = simp to_z-of_z at c.names_no_vertex-else-names_no_vertex.ensures in
    rw (← c.in-Some.ensures) (by_second first c.if-names_no_vertex.false second)
