use Rattle.std.proofs.Common.{rules}
use Rattle.game_warnings.proofs.WinnerLemmas.{winner_none, winner_some}
use Rattle.game_warnings.proofs.winners.winner_of.Goals as goal

pub returns-in-Some-clause-some : goal.returns-in-Some-clause-some
returns-in-Some-clause-some g c = λ all are.
    winner_some all c.args.winners.now are c.args.name.now c.bytes.result c.bytes.ensures.padded c.bytes.ensures.name c.in-Some.g.now (search rules)

pub returns-in-None-clause-none : goal.returns-in-None-clause-none
returns-in-None-clause-none g c = λ all are.
    winner_none all c.args.winners.now are c.args.name.now c.bytes.result c.bytes.ensures.padded c.bytes.ensures.name (search rules)
