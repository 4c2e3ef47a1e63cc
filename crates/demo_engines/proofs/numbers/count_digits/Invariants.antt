use Rattle.std.proofs.Common.{All, take}
use Rattle.line_io.specs.Numbers.{IsDigit}
use Rattle.demo_engines.proofs.numbers.count_digits.Given as goal

abbrev pub invariant-loop-i : goal.invariant-loop-i
invariant-loop-i l = All IsDigit (take l.i l.text)
