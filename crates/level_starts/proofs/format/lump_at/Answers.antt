use Rattle.map_level.proofs.OpeningLemmas.{refused_outside}
use Rattle.level_starts.proofs.FormatLemmas.{lump_within}
use Rattle.level_starts.proofs.format.lump_at.Goals as goal

pub unreachable-requires : goal.unreachable-requires
unreachable-requires g c =
    refused_outside c.args.set.now c.args.g c.in-Err.field-0 c.in-Err.ensures.no_such
    c.in-Err.ensures.outside (lump_within c.args.set.now c.args.g c.requires.0 c.requires.1)
    c.requires.0 c.requires.1
