use Rattle.std.proofs.Common.{◌≡◌, ◌+◌, ◌-◌, ◌/◌, ◌<◌, arith}
use Rattle.line_io.proofs.SmallLemmas.{small_digits, small_written}
use Rattle.line_io.proofs.text_line.write_small.Goals as goal

pub returns-clause-start : goal.returns-clause-start
returns-clause-start c =
    let small : c.args.number < 256 = omega arith in
    omega (arith, (small_written c.args.bytes.now c.args.end c.args.number small c.requires.0 c.requires.1).0, c.requires.0)

pub returns-clause-written : goal.returns-clause-written
returns-clause-written c =
    let small : c.args.number < 256 = omega arith in
    let place : c.args.end - 1 - (c.args.number + 246) / 256 - (c.args.number + 156) / 256 ≡ c.args.end - small_digits c.args.number = omega arith in
    rw (place, c.copy_from_slice.ensures.after, c.three_digits.ensures) (small_written c.args.bytes.now c.args.end c.args.number small c.requires.0 c.requires.1).1
