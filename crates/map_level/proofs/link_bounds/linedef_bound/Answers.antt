use Rattle.std.proofs.Common.{rules}
use Rattle.map_level.specs.LinkBounds.{LinedefFound}
use Rattle.map_level.proofs.BoundLemmas.{bounded, linedef_there}
use Rattle.map_level.proofs.link_bounds.linedef_bound.Goals as goal

pub returns : goal.returns
returns c =
    bounded {P = LinedefFound c.args.level.now}
    (λ i found. rw (c.len-count.ensures, c.linedefs.ensures.is) (linedef_there c.args.level.now i found))
    c.bound_where.ensures (λ i told found. search rules)
