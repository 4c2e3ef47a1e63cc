use Rattle.std.proofs.Common.{sym, ◌∙◌}
use Rattle.demo_listings.proofs.ToldLemmas.{agrees, differs, part_told, version_told}
use Rattle.demo_listings.proofs.heads.prepend_in_headers.Goals as goal

pub returns-then-prepend_in_versions : goal.returns-then-prepend_in_versions
returns-then-prepend_in_versions c =
    let versions = rw (c.version-of_a.ensures, c.version-of_b.ensures) at c.prepend_in_versions.ensures in
    version_told c.args.a.now c.args.b.now _ c.requires.wrappers (differs _ _ _ _ _ versions c.if-prepend_in_versions.true)

pub prepend_part-requires : goal.prepend_part-requires
prepend_part-requires c = (agrees _ _ _ _ _ c.prepend_in_versions.ensures c.if-prepend_in_versions.false).1

pub returns-in-Some : goal.returns-in-Some
returns-in-Some c =
    let versions = rw (c.version-of_a.ensures, c.version-of_b.ensures) at c.prepend_in_versions.ensures in
    let differ = rw (c.header.ensures, c.header-2.ensures) at c.in-Some.ensures.some in
    part_told c.args.a.now c.args.b.now _ c.in-Some.place c.requires.wrappers (agrees _ _ _ _ _ versions c.if-prepend_in_versions.false).0 differ c.prepend_part.ensures

pub returns-in-None : goal.returns-in-None
returns-in-None c = (
  sym c.header.ensures ∙ c.in-None.ensures.none ∙ c.header-2.ensures,
  (agrees _ _ _ _ _ c.prepend_in_versions.ensures c.if-prepend_in_versions.false).1,
)
