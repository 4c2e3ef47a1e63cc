use Rattle.std.proofs.Common.{◌≤◌, length, arith}
use Rattle.wadlook_c.proofs.prepare_at.wadlook_prepare_at.Goals as goal

pub returns-else-found-sectors-clause-done : goal.returns-else-found-sectors-clause-done
returns-else-found-sectors-clause-done c = λ _.
    let fits : c.in-Ok.found ≤ length c.args.sectors.now =
    omega (arith, c.if-found-sectors.false, c.prepared_at.auto.sectors) in
    let found = rw c.reading_of.ensures at c.in-Ok.ensures.ok in
    found fits
