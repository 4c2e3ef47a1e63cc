use Rattle.std.proofs.Common.{◌≡◌, [], length, arith, refl}
use Rattle.std.proofs.lemmas.List.{take_at}
use Rattle.std.proofs.lemmas.Result.{err_from_is_err_and}
use Rattle.demo_lump.proofs.write.write_demo.Goals as goal

pub returns-in_err-bytes-clause-demo : goal.returns-in_err-bytes-clause-demo
returns-in_err-bytes-clause-demo g c = rw (err_from_is_err_and c.from_residual.result c.from_residual.ensures.1).1 tt

pub returns-in_err-bytes-clause-read : goal.returns-in_err-bytes-clause-read
returns-in_err-bytes-clause-read g c = rw (err_from_is_err_and c.from_residual.result c.from_residual.ensures.1).1 tt

pub put_demo-requires-clause-version : goal.put_demo-requires-clause-version
put_demo-requires-clause-version g c = c.requires.version

pub put_demo-requires-clause-players : goal.put_demo-requires-clause-players
put_demo-requires-clause-players g c = c.requires.players

pub put_demo-requires-clause-writable : goal.put_demo-requires-clause-writable
put_demo-requires-clause-writable g c = c.requires.writable

pub returns-clause-demo : goal.returns-clause-demo
returns-clause-demo g c =
    let long : length c.put_demo.new.bytes ≡ c.in_ok-bytes.bytes.len =
    omega (arith, c.put_demo.auto.bytes, c.deref_mut.ensures.len) in
    rw (take_at c.put_demo.new.bytes _ _ long) c.put_demo.ensures

pub returns-clause-read : goal.returns-clause-read
returns-clause-read g c =
    let long : length c.put_demo.new.bytes ≡ c.in_ok-bytes.bytes.len =
    omega (arith, c.put_demo.auto.bytes, c.deref_mut.ensures.len) in
    rw (take_at c.put_demo.new.bytes _ _ long) (record { rest = []; reads = c.put_demo.ensures; counted = refl })
