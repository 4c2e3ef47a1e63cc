use Rattle.std.proofs.Common.{◌≡◌, ◌+◌, ◌*◌, arith}
use Rattle.game_warnings.proofs.RankLemmas.{lost_alone}
use Rattle.game_warnings.proofs.crossing.tell_lost.Goals as goal

pub tell_where-requires-clause-alone : goal.tell_where-requires-clause-alone
tell_where-requires-clause-alone g c = lost_alone c.args.level.now c.args.linedef

pub returns-clause-told : goal.returns-clause-told
returns-clause-told g c =
    let at = c.args.linedef * 3 in
    let three : at + 3 ≡ at + 2 + 1 = omega arith in
    rw three c.tell_where.ensures.told
