use Rattle.std.proofs.Common.{rules}
use Rattle.map_level.specs.LinkBounds.{SsectorFound}
use Rattle.map_level.proofs.BoundLemmas.{bounded, ssector_there}
use Rattle.map_level.proofs.link_bounds.ssector_bound.Goals as goal

pub returns : goal.returns
returns c =
    bounded {P = SsectorFound c.args.level.now}
    (λ i found. rw (c.len-count.ensures, c.ssectors.ensures.is) (ssector_there c.args.level.now i found))
    c.bound_where.ensures (λ i told found. search rules)
