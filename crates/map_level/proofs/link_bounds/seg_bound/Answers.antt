use Rattle.std.proofs.Common.{rules}
use Rattle.map_level.specs.LinkBounds.{SegFound}
use Rattle.map_level.proofs.BoundLemmas.{bounded, seg_there}
use Rattle.map_level.proofs.link_bounds.seg_bound.Goals as goal

pub returns : goal.returns
returns c =
    bounded {P = SegFound c.args.level.now}
    (λ i found. rw (c.len-count.ensures, c.segs.ensures.is) (seg_there c.args.level.now i found))
    c.bound_where.ensures (λ i told found. search rules)
