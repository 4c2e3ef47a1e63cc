use Rattle.node_lumps.proofs.broken.BrokenDisplay.fmt.Goals as goal

pub returns-in-Vertexes-clause-writes : goal.returns-in-Vertexes-clause-writes
returns-in-Vertexes-clause-writes g c = rw c.in-Vertexes.is c.write-in-Vertexes.ensures.writes
