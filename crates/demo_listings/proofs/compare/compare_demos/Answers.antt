use Rattle.std.proofs.Common.{inl, refl}
use Rattle.demo_listings.proofs.ComparedLemmas.{found_same}
use Rattle.demo_listings.proofs.compare.compare_demos.Goals as goal

pub returns-then-prepend_difference : goal.returns-then-prepend_difference
returns-then-prepend_difference g c =
    inl (record {
      are = found_same c.args.what c.args.a.now c.args.b.now c.prepend_difference.new.line c.prepend_difference.result c.prepend_difference.ensures c.if-prepend_difference.true;
      answered = refl;
      untouched = refl;
    })
