use Rattle.std.proofs.Common.{◌+◌, arith}
use Rattle.line_io.proofs.DigitLemmas.{value_of-take_more}
use Rattle.demo_engines.proofs.NumberLemmas.{value_take}
use Rattle.demo_engines.proofs.numbers.value.Goals as goal

pub loop-i-preserved : goal.loop-i-preserved
loop-i-preserved c =
    let step = value_of-take_more c.args.digits.now c.loop-i.i (omega (arith, c.loop-i-test.true)) in
    let e = c.in-Some-checked_add.ensures in
    let t = c.in-Some.ensures in
    omega (arith, step, e, t, c.from.ensures, c.loop-i.invariant)

pub returns-in_default-clause-none : goal.returns-in_default-clause-none
returns-in_default-clause-none c =
    let step = value_of-take_more c.args.digits.now c.loop-i.i (omega (arith, c.loop-i-test.true)) in
    let whole = value_take c.args.digits.now (c.loop-i.i + 1) in
    omega (arith, step, whole, c.in_default.ensures, c.loop-i.invariant)

pub returns-in_default-checked_add-clause-none : goal.returns-in_default-checked_add-clause-none
returns-in_default-checked_add-clause-none c =
    let step = value_of-take_more c.args.digits.now c.loop-i.i (omega (arith, c.loop-i-test.true)) in
    let whole = value_take c.args.digits.now (c.loop-i.i + 1) in
    omega (arith, step, whole, c.in_default-checked_add.ensures, c.in-Some.ensures, c.from.ensures, c.loop-i.invariant)
