use Rattle.std.proofs.Common.{refl}
use Rattle.lens_engines.proofs.judged.Judged.of.Goals as goal

pub returns : goal.returns
returns g c =
    let found = rw c.in_ok-parts.ensures at c.count_all-found.ensures in
    let unlooked = c.known_unlooked-unlooked.ensures in
    let counts = rw c.deref.ensures.value at c.of-counts.ensures c.args.level.now found in
    record {
      of_level = refl;
      asked = c.in_ok-warned.ensures;
      counts = counts;
      unlooked = unlooked;
    }
