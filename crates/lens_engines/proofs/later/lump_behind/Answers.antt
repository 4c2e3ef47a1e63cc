use Rattle.std.proofs.Common.{◌+◌, arith}
use Rattle.map_level.proofs.OpeningLemmas.{refused_outside}
use Rattle.level_starts.proofs.FormatLemmas.{lump_within}
use Rattle.lens_engines.proofs.later.lump_behind.Goals as goal

pub overflow_add-g : goal.overflow_add-g
overflow_add-g g c = omega (arith, lump_within c.args.set.now (c.args.g + c.args.k) c.requires.0 c.requires.1, c.total-total.ensures)

pub unreachable-requires : goal.unreachable-requires
unreachable-requires g c =
    let number = c.args.g + c.args.k in
    refused_outside c.args.set.now number c.in-Err.field-0 c.in-Err.ensures.no_such
    c.in-Err.ensures.outside (lump_within c.args.set.now number c.requires.0 c.requires.1)
    c.requires.0 c.requires.1
