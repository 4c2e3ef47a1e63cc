use Rattle.std.proofs.lemmas.Result.{err_from_is_err_and}
use Rattle.map_tree.proofs.CensusLemmas.{census_from_tally}
use Rattle.map_tree.proofs.tally.count.Goals as goal

pub returns-clause-census : goal.returns-clause-census
returns-clause-census g c =
    census_from_tally c.args.level.now c.args.rect c.tally.new.counts c.in_ok-pairs.pairs.items c.in_ok-work.work.tests c.in_ok-work.work.pending c.requires.sound c.in_ok-work.ensures.valid c.in_ok-work.ensures.tally c.in_ok-pairs.ensures.pairs

pub tally-requires-clause-sound : goal.tally-requires-clause-sound
tally-requires-clause-sound g c = c.requires.sound

pub tally-requires-clause-listed : goal.tally-requires-clause-listed
tally-requires-clause-listed g c = c.requires.listed

pub tally-requires-clause-fresh : goal.tally-requires-clause-fresh
tally-requires-clause-fresh g c = c.requires.fresh

pub returns-in_err-work-clause-census : goal.returns-in_err-work-clause-census
returns-in_err-work-clause-census g c = rw (err_from_is_err_and c.from_residual.result c.from_residual.ensures.1).1 tt

pub returns-in_err-work-clause-long : goal.returns-in_err-work-clause-long
returns-in_err-work-clause-long g c = c.tally.ensures.long

pub returns-in_err-pairs-clause-census : goal.returns-in_err-pairs-clause-census
returns-in_err-pairs-clause-census g c = rw (err_from_is_err_and c.from_residual-in_err-pairs.result c.from_residual-in_err-pairs.ensures.1).1 tt

pub returns-in_err-pairs-clause-long : goal.returns-in_err-pairs-clause-long
returns-in_err-pairs-clause-long g c = rw c.pairs.ensures.same c.tally.ensures.long

pub returns-clause-long : goal.returns-clause-long
returns-clause-long g c = rw c.pairs.ensures.same c.tally.ensures.long
