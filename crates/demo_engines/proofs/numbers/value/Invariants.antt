use Rattle.std.proofs.Common.{◌≡◌, take}
use Rattle.line_io.specs.Numbers.{value_of}
use Rattle.demo_engines.proofs.numbers.value.Given as goal

abbrev pub invariant-loop-i : goal.invariant-loop-i
invariant-loop-i l = l.number ≡ value_of (take l.i l.digits)
