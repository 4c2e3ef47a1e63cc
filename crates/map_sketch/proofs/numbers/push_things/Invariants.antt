use Rattle.std.proofs.Common.{◌≡◌, ◌++◌}
use Rattle.std.specs.List.{flat_map, range_with_len}
use Rattle.map_sketch.specs.Numbers.{thing_numbers}
use Rattle.map_sketch.proofs.numbers.push_things.Given as goal

abbrev pub invariant-loop-i : goal.invariant-loop-i
invariant-loop-i g l = l.list.items ≡ l.fn.list.items ++ flat_map (thing_numbers l.sketch) (range_with_len 0 l.i)
