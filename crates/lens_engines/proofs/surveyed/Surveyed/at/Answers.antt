use Rattle.std.proofs.lemmas.Result.{err_from_is_err_and}
use Rattle.lens_engines.proofs.UnreadLemmas.{lump_of_unread}
use Rattle.lens_engines.proofs.surveyed.Surveyed.at.Goals as goal

pub new-requires : goal.new-requires
new-requires g c = lump_of_unread c.args.set.now c.args.g c.in-Some.unread c.in-Some.ensures.unread

pub returns-in_ok-counted-in-None-clause-found : goal.returns-in_ok-counted-in-None-clause-found
returns-in_ok-counted-in-None-clause-found g c = (c.in-None.ensures.doom, c.in_ok-counted-in-None.ensures)

pub returns-in_err-counted-in-None-clause-doom : goal.returns-in_err-counted-in-None-clause-doom
returns-in_err-counted-in-None-clause-doom g c =
    let p = err_from_is_err_and c.from_residual.result c.from_residual.ensures.1 in
    rw p.1 c.in-None.ensures.doom
