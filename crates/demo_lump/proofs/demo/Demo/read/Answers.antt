use Rattle.std.proofs.Common.{arith}
use Rattle.std.proofs.lemmas.List.{take_rest}
use Rattle.std.proofs.lemmas.Result.{err_from_is_err_and}
use Rattle.demo_lump.proofs.CommandLemmas.{count_fits}
use Rattle.demo_lump.proofs.DemoLemmas.{only_demo, no_fault, no_demo, only_fault, RefusesDemo-header, IsRead-scan, RefusesDemo-scan}
use Rattle.demo_lump.proofs.demo.Demo.read.Goals as goal

pub returns-in_err-header-clause-ok : goal.returns-in_err-header-clause-ok
returns-in_err-header-clause-ok c =
    let p = err_from_is_err_and c.from_residual.result c.from_residual.ensures.1 in
    rw (p.1, p.2) (no_demo c.args.bytes.now _
    (RefusesDemo-header c.args.bytes.now _ c.in_err-header.ensures.refused))

pub returns-in_err-header-clause-refused : goal.returns-in_err-header-clause-refused
returns-in_err-header-clause-refused c =
    let p = err_from_is_err_and c.from_residual.result c.from_residual.ensures.1 in
    rw (p.1, p.2) (only_fault c.args.bytes.now _
    (RefusesDemo-header c.args.bytes.now _ c.in_err-header.ensures.refused))

pub invariant_of-result : goal.invariant_of-result
invariant_of-result c = (
  c.in_ok-header.ensures.ok.players,
  omega (arith, count_fits _ _ _ _ c.scan-count.ensures.so_far),
)

pub returns-in-Some-clause-ok : goal.returns-in-Some-clause-ok
returns-in-Some-clause-ok c =
    let scan = rw take_rest at c.scan-count.ensures in
    rw take_rest (only_demo c.args.bytes.now _
    (IsRead-scan c.args.bytes.now _ _ _ c.in_ok-header.ensures.ok scan _ c.in-Some.ensures))

pub returns-in-Some-clause-refused : goal.returns-in-Some-clause-refused
returns-in-Some-clause-refused c =
    let scan = rw take_rest at c.scan-count.ensures in
    rw take_rest (no_fault c.args.bytes.now _
    (IsRead-scan c.args.bytes.now _ _ _ c.in_ok-header.ensures.ok scan _ c.in-Some.ensures))

pub returns-in-None-clause-ok : goal.returns-in-None-clause-ok
returns-in-None-clause-ok c =
    let scan = rw take_rest at c.scan-count.ensures in
    no_demo c.args.bytes.now _
    (RefusesDemo-scan c.args.bytes.now _ _ _ c.in_ok-header.ensures.ok scan c.in-None.ensures)

pub returns-in-None-clause-refused : goal.returns-in-None-clause-refused
returns-in-None-clause-refused c =
    let scan = rw take_rest at c.scan-count.ensures in
    only_fault c.args.bytes.now _
    (RefusesDemo-scan c.args.bytes.now _ _ _ c.in_ok-header.ensures.ok scan c.in-None.ensures)
