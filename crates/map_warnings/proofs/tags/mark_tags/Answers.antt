use Rattle.std.proofs.Common.{◌≡◌, ◌≤◌, Some, length, rules}
use Rattle.std.proofs.lemmas.Int.{to_z-of_z}
use Rattle.std.specs.Prelude.{FitsSigned}
use Rattle.std.specs.Int.{w16}
use Rattle.std.specs.List.{slice_get}
use Rattle.map_level.specs.Links.{sectors_of}
use Rattle.map_warnings.proofs.TagLemmas.{tags_more, tags_all}
use Rattle.map_warnings.proofs.TwinLemmas.{word-below}
use Rattle.map_warnings.proofs.tags.mark_tags.Goals as goal

pub sectors-preserved : goal.sectors-preserved
sectors-preserved c =
    let level = c.args.level.now in
    let at : slice_get (sectors_of level) c.sectors.s ≡ Some c.at.result = rw (← c.sectors-sectors.ensures.is) c.at.ensures in
    let fits : FitsSigned w16 c.at.result.tag = search rules in
    let next = tags_more level c.sectors.s c.sectors.tags c.at.result at fits (word-below c.at.result.tag fits) c.sectors.invariant in
    let word = simp to_z-of_z at c.cast_unsigned.ensures in
    rw word next

pub returns : goal.returns
returns c =
    let all : length (sectors_of c.args.level.now) ≤ c.sectors.s = rw (← c.sectors-sectors.ensures.is, ← c.len-s-end.ensures) c.sectors-test.false in
    tags_all c.args.level.now c.sectors.s c.sectors.tags all c.sectors.invariant
