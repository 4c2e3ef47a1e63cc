use Rattle.std.proofs.Common.{rules}
use Rattle.map_level.proofs.BoundLemmas.{bounded}
use Rattle.later_levels.specs.TableBounds.{SegFound}
use Rattle.later_levels.proofs.BoundLemmas.{seg_there}
use Rattle.later_levels.proofs.table_bounds.seg_bound.Goals as goal

pub returns : goal.returns
returns c =
    bounded {P = SegFound c.args.one.now}
    (λ i found. rw (c.seg_count-count.ensures, c.nodes.ensures.is) (seg_there c.args.one.now i found))
    c.bound_where.ensures (λ i told found. search rules)
