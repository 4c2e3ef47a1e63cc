use Rattle.std.proofs.Common.{◌≡◌, length, arith}
use Rattle.wadlook_c.proofs.SliceLemmas.{front_kept}
use Rattle.wadlook_c.proofs.prepare_at.prepared_at.Goals as goal

pub returns-clause-ok : goal.returns-clause-ok
returns-clause-ok c = λ fits.
    let counted = rw c.ssectors.ensures.is at c.len-count.ensures in
    let long : c.len-count.result ≡ length c.put_sectors.new.sectors =
    omega (arith, counted, c.put_sectors.ensures.long) in (
      c.in_ok-level.level,
      record { opened = c.in_ok-level.ensures.ok; sound = c.in_ok-accepted.ensures.ok },
      rw (front_kept _ c.put_sectors.new.sectors _ long) c.put_sectors.ensures,
    )
