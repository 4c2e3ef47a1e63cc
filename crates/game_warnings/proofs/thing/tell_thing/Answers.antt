use Rattle.std.proofs.Common.{◌≡◌, ◌+◌, ◌*◌, arith}
use Rattle.game_warnings.proofs.thing.tell_thing.Goals as goal

pub returns-clause-told : goal.returns-clause-told
returns-clause-told g c =
    let at = c.args.k * 4 in
    let four : at + 4 ≡ at + 1 + 1 + 1 + 1 = omega arith in
    rw four c.tell_shooter.ensures.told
