use Rattle.std.proofs.lemmas.Result.{err_from_is_err_and}
use Rattle.map_tree.proofs.CensusLemmas.{areas_from_counted}
use Rattle.map_tree.proofs.tally.count_areas.Goals as goal

pub returns-clause-areas : goal.returns-clause-areas
returns-clause-areas g c =
    areas_from_counted c.args.level.now c.args.rect c.add_points.new.counts c.in_ok-pairs.pairs.items c.requires.sound c.in_ok-add_points.ensures.counted c.in_ok-pairs.ensures.pairs

pub add_points-requires-clause-sound : goal.add_points-requires-clause-sound
add_points-requires-clause-sound g c = c.requires.sound

pub add_points-requires-clause-listed : goal.add_points-requires-clause-listed
add_points-requires-clause-listed g c = c.requires.listed

pub add_points-requires-clause-fresh : goal.add_points-requires-clause-fresh
add_points-requires-clause-fresh g c = c.requires.fresh

pub returns-in_err-add_points-clause-areas : goal.returns-in_err-add_points-clause-areas
returns-in_err-add_points-clause-areas g c = rw (err_from_is_err_and c.from_residual.result c.from_residual.ensures.1).1 tt

pub returns-in_err-add_points-clause-long : goal.returns-in_err-add_points-clause-long
returns-in_err-add_points-clause-long g c = c.add_points.ensures.long

pub returns-in_err-pairs-clause-areas : goal.returns-in_err-pairs-clause-areas
returns-in_err-pairs-clause-areas g c = rw (err_from_is_err_and c.from_residual-in_err-pairs.result c.from_residual-in_err-pairs.ensures.1).1 tt

pub returns-in_err-pairs-clause-long : goal.returns-in_err-pairs-clause-long
returns-in_err-pairs-clause-long g c = rw c.pairs.ensures.same c.add_points.ensures.long

pub returns-clause-long : goal.returns-clause-long
returns-clause-long g c = rw c.pairs.ensures.same c.add_points.ensures.long
