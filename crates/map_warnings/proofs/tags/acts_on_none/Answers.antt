use Rattle.std.proofs.Common.{rules}
use Rattle.std.specs.Prelude.{FitsSigned}
use Rattle.std.specs.Int.{w16}
use Rattle.std.proofs.lemmas.Int.{to_z-of_z}
use Rattle.map_warnings.proofs.tags.acts_on_none.Goals as goal

pub returns-then-goes_by_tag : goal.returns-then-goes_by_tag
returns-then-goes_by_tag c =
    let special : FitsSigned w16 c.args.linedef.now.special = search rules in
    let tag : FitsSigned w16 c.args.linedef.now.tag = search rules in
    let by = simp to_z-of_z at c.goes_by_tag.ensures in
    let none = simp to_z-of_z at c.is_of_none.ensures in (
      λ yes. (by.0 c.if-goes_by_tag.true, (none.0 yes).0, (none.0 yes).1),
      λ told. none.1 (told.1, told.2),
    )

pub returns-else-goes_by_tag : goal.returns-else-goes_by_tag
returns-else-goes_by_tag c =
    let special : FitsSigned w16 c.args.linedef.now.special = search rules in
    let by = simp to_z-of_z at c.goes_by_tag.ensures in (
      λ yes. absurd (cc),
      λ told. by.1 told.0,
    )
