use Rattle.std.proofs.Common.{◌≡◌, ◌++◌}
use Rattle.std.specs.List.{flat_map, range_with_len}
use Rattle.map_sketch.specs.Numbers.{linedef_numbers}
use Rattle.map_sketch.proofs.numbers.push_linedefs.Given as goal

abbrev pub invariant-loop-i : goal.invariant-loop-i
invariant-loop-i g l = l.list.items ≡ l.fn.list.items ++ flat_map (linedef_numbers l.sketch) (range_with_len 0 l.i)
