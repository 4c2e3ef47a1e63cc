use Rattle.le_rec.specs.Name.{query_of}
use Rattle.game_warnings.proofs.FoundLemmas.{refused}
use Rattle.game_warnings.proofs.found.found.Goals as goal

pub returns-in-Err-clause-none : goal.returns-in-Err-clause-none
returns-in-Err-clause-none g c =
    let wins = rw c.query.ensures at c.in_ok-g.ensures.some in
    refused c.args.set.now (query_of c.args.name.now) c.in_ok-g.g c.lump.result wins c.lump.ensures.no_such c.lump.ensures.outside _ c.in-Err.is
