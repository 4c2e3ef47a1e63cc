use Rattle.std.proofs.Common.{◌≡◌, ◌+◌, ◌*◌, arith}
use Rattle.game_warnings.proofs.crossing.tell_barriers.Goals as goal

pub tell_barrier-requires : goal.tell_barrier-requires
tell_barrier-requires g c =
    let at = c.args.i * 3 in
    let none : at + 0 ≡ at = omega arith in
    rw none c.requires

pub tell_barrier-requires-2 : goal.tell_barrier-requires-2
tell_barrier-requires-2 g c =
    let at = c.args.i * 3 in
    let none : at + 0 ≡ at = omega arith in
    rw none at c.in_ok-tell_barrier.ensures.told

pub returns-clause-told : goal.returns-clause-told
returns-clause-told g c =
    let at = c.args.i * 3 in
    let two : at + 2 ≡ at + 1 + 1 = omega arith in
    rw two c.tell_barrier-2.ensures.told
