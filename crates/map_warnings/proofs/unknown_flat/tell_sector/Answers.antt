use Rattle.std.proofs.Common.{◌≡◌, ◌+◌, ◌*◌, arith}
use Rattle.map_warnings.proofs.unknown_flat.tell_sector.Goals as goal

pub tell_plane-requires-clause-below : goal.tell_plane-requires-clause-below
tell_plane-requires-clause-below g c =
    let at = c.args.i * 2 in
    let none : at + 0 ≡ at = omega arith in
    rw none c.requires.below

pub tell_plane-requires-2-clause-below : goal.tell_plane-requires-2-clause-below
tell_plane-requires-2-clause-below g c =
    let at = c.args.i * 2 in
    let none : at + 0 ≡ at = omega arith in
    rw none at c.in_ok-tell_plane.ensures.told

pub returns-clause-told : goal.returns-clause-told
returns-clause-told g c =
    let at = c.args.i * 2 in
    let two : at + 2 ≡ at + 1 + 1 = omega arith in
    rw two c.tell_plane-2.ensures.told
