use Rattle.std.proofs.Common.{rules}
use Rattle.map_level.proofs.BoundLemmas.{bounded}
use Rattle.later_levels.specs.TableBounds.{SsectorFound}
use Rattle.later_levels.proofs.BoundLemmas.{ssector_there}
use Rattle.later_levels.proofs.table_bounds.ssector_bound.Goals as goal

pub returns : goal.returns
returns g c =
    bounded {P = SsectorFound c.args.nodes.now}
    (λ t found. rw c.ssector_count-count.ensures (ssector_there c.args.nodes.now t found))
    c.bound_where.ensures (λ t told found. search rules)
