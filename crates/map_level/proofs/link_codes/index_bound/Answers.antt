use Rattle.std.proofs.Common.{◌⊎◌}
use Rattle.map_level.specs.LinkFaults.{IsOutside}
use Rattle.map_level.specs.Links.{vertexes_of}
use Rattle.map_level.proofs.BoundLemmas.{some_within}
use Rattle.map_level.proofs.link_codes.index_bound.Goals as goal

pub returns-in-N12 : goal.returns-in-N12
returns-in-N12 c = λ i holds.
    rw (c.len-in-N12.ensures, c.vertexes.ensures.is)
    (some_within (vertexes_of c.args.level.now) i (λ vertex. IsOutside vertex.x ⊎ IsOutside vertex.y) (rw c.in-N12.is at holds))
