use Rattle.map_cells.proofs.SeenLemmas.{seen-listed}
use Rattle.map_cells.proofs.seen.Seen.bound.Goals as goal

pub returns-clause-listed : goal.returns-clause-listed
returns-clause-listed g c = seen-listed c.args.self.now c.self.inside.numbers.items c.self.inside.bound c.self.view_is c.self.invariant.1
