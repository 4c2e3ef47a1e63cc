use Rattle.std.proofs.Common.{◌+◌}
use Rattle.map_level.proofs.OpeningLemmas.{refused_outside}
use Rattle.map_sketch.proofs.sketch.lump_at.Goals as goal

pub returns-in-Err-clause-is : goal.returns-in-Err-clause-is
returns-in-Err-clause-is g c = (
  c.requires.own,
  refused_outside c.args.set.now (c.args.g + c.args.k) c.in-Err.field-0 c.in-Err.ensures.no_such c.in-Err.ensures.outside c.requires.listed,
)
