use Rattle.std.proofs.Common.{◌≡◌, ◌+◌, ◌-◌, ◌*◌, ◌≤◌, ◌++◌, drop, length, take}
use Rattle.look_engines.specs.Engines.Show.{numbers_text}
use Rattle.look_engines.proofs.engines.blocks.prepend_numbers.Given as goal

abbrev pub invariant-loop-i : goal.invariant-loop-i
invariant-loop-i l = record {
  text : l.line ≡ numbers_text (take (l.to - l.i) (drop l.i l.lines)) ++ l.fn.line;
  room : length l.line + 12 * (l.i - l.from) ≤ 134;
  above : l.from ≤ l.i;
  within : l.i ≤ l.to;
}
