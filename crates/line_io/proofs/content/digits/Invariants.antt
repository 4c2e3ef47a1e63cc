use Rattle.std.proofs.Common.{◌≡◌, take, min, All}
use Rattle.line_io.specs.Numbers.{IsDigit, value_of}
use Rattle.line_io.proofs.content.digits.Given as goal

-- the bytes so far are digits
abbrev pub invariant-loop-count : goal.invariant-loop-count
invariant-loop-count l = record {
  each : All IsDigit (take l.count l.bytes);
  so_far : l.value ≡ min (value_of (take l.count l.bytes)) 2147483648;
}
