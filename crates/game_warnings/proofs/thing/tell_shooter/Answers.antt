use Rattle.std.proofs.Common.{◌≡◌, ◌+◌, ◌*◌, arith}
use Rattle.game_warnings.proofs.thing.tell_shooter.Goals as goal

pub tell_unaimed-requires-clause-below : goal.tell_unaimed-requires-clause-below
tell_unaimed-requires-clause-below g c =
    let at = c.args.k * 4 in
    let two : at + 1 + 1 ≡ at + 2 = omega arith in
    rw two at c.requires.below

pub tell_crowded-requires-clause-below : goal.tell_crowded-requires-clause-below
tell_crowded-requires-clause-below g c =
    let at = c.args.k * 4 in
    let three : at + 2 + 1 ≡ at + 3 = omega arith in
    rw three at c.in_ok-tell_unaimed.ensures.told

pub returns-clause-told : goal.returns-clause-told
returns-clause-told g c =
    let at = c.args.k * 4 in
    let four : at + 3 + 1 ≡ at + 1 + 1 + 1 + 1 = omega arith in
    rw four at c.tell_crowded.ensures.told
