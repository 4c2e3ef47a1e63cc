use Rattle.std.proofs.Common.{refl}
use Rattle.map_level.proofs.OpeningLemmas.{refused_outside}
use Rattle.lens_engines.proofs.cut.add_lump.Goals as goal

pub returns-in_default-clause-err : goal.returns-in_default-clause-err
returns-in_default-clause-err g c =
    (refl, c.name_at-name.ensures, refused_outside c.args.set.now c.args.entry c.in_default.field-0 c.in_default.ensures.no_such c.in_default.ensures.outside c.requires)
