use Rattle.std.proofs.Common.{◌≡◌, ◌+◌, ◌*◌, ◌≤◌, ◌++◌, drop, length}
use Rattle.look_engines.specs.Engines.Show.{numbers_text}
use Rattle.look_engines.proofs.engines.show.prepend_box.Given as goal

abbrev pub invariant-loop-i : goal.invariant-loop-i
invariant-loop-i l = record {
  text : l.line ≡ numbers_text (drop l.i l.bounds) ++ l.fn.line;
  room : length l.line + 7 * l.i ≤ length l.fn.line + 28;
  within : l.i ≤ 4;
}
