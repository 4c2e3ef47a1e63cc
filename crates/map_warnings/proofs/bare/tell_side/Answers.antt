use Rattle.std.proofs.Common.{◌≡◌, ◌+◌, ◌*◌, arith}
use Rattle.map_warnings.specs.Warnings.{side_number}
use Rattle.map_warnings.proofs.bare.tell_side.Goals as goal

pub tell_part-requires-clause-below : goal.tell_part-requires-clause-below
tell_part-requires-clause-below g c =
    let at = c.args.i * 6 + side_number c.args.side * 3 in
    let none : at + 0 ≡ at = omega arith in
    rw none c.requires.below

pub tell_part-requires-2-clause-below : goal.tell_part-requires-2-clause-below
tell_part-requires-2-clause-below g c =
    let at = c.args.i * 6 + side_number c.args.side * 3 in
    let none : at + 0 ≡ at = omega arith in
    rw none at c.in_ok-tell_part.ensures.told

pub tell_part-requires-3-clause-below : goal.tell_part-requires-3-clause-below
tell_part-requires-3-clause-below g c =
    let at = c.args.i * 6 + side_number c.args.side * 3 in
    let two : at + 2 ≡ at + 1 + 1 = omega arith in
    rw two c.in_ok-tell_part-2.ensures.told

pub returns-clause-told : goal.returns-clause-told
returns-clause-told g c =
    let at = c.args.i * 6 + side_number c.args.side * 3 in
    let three : at + 3 ≡ at + 2 + 1 = omega arith in
    rw three c.tell_part-3.ensures.told
