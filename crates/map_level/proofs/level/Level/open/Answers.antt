use Rattle.map_level.proofs.LevelLemmas.{level_of_winner, refusal_of_winner}
use Rattle.map_level.proofs.level.Level.open.Goals as goal

pub returns-clause-level : goal.returns-clause-level
returns-clause-level g c =
    level_of_winner c.args.set.now c.in-Some.label c.args.reading c.args.name c.at.result c.in-Some.ensures.some c.at.ensures.level

pub returns-clause-refused : goal.returns-clause-refused
returns-clause-refused g c =
    refusal_of_winner c.args.set.now c.in-Some.label c.args.reading c.args.name c.at.result c.in-Some.ensures.some c.at.ensures.refused
