use Rattle.std.proofs.Common.{refl}
use Rattle.look_engines.proofs.engines.DemoLemmas.{lump_refused}
use Rattle.look_engines.proofs.engines.demo.named_demo.Goals as goal

pub returns-in_default-clause-err : goal.returns-in_default-clause-err
returns-in_default-clause-err g c = (c.in_ok-set.set, c.in_ok-set.ensures.ok, rw c.query.ensures at c.in_default.ensures.none)

pub returns-in-Err-clause-err : goal.returns-in-Err-clause-err
returns-in-Err-clause-err g c =
    lump_refused _ c.args.name.now c.in_ok-set.set c.in-Some.g c.in-Err.fault
    (record { read = c.in_ok-set.ensures.ok; wins = rw c.query.ensures at c.in-Some.ensures.some })
    c.in-Err.ensures.no_such c.in-Err.ensures.outside

pub returns-in-Ok-read-clause-ok : goal.returns-in-Ok-read-clause-ok
returns-in-Ok-read-clause-ok g c = (
  c.in-Ok.lump.now,
  record {
    files = c.in_ok-set.set;
    g = c.in-Some.g;
    named = record { read = c.in_ok-set.ensures.ok; wins = rw c.query.ensures at c.in-Some.ensures.some };
    stands = c.in-Ok.ensures.ok;
  },
  (c.in-Ok-read.ensures.ok c.in-Ok-read.demo).0 refl,
)

pub returns-clause-err : goal.returns-clause-err
returns-clause-err g c = (
  c.in-Ok.lump.now,
  record {
    files = c.in_ok-set.set;
    g = c.in-Some.g;
    named = record { read = c.in_ok-set.ensures.ok; wins = rw c.query.ensures at c.in-Some.ensures.some };
    stands = c.in-Ok.ensures.ok;
  },
  (c.in-Err-read.ensures.refused c.in-Err-read.fault).0 refl,
)
