use Rattle.std.proofs.Common.{◌≡◌}
use Rattle.std.specs.List.{flat_map, range_with_len}
use Rattle.wad_page.specs.Linedefs.{linedef_bytes}
use Rattle.wad_page.proofs.linedefs.list_level.Given as goal

abbrev pub invariant-loop-i : goal.invariant-loop-i
invariant-loop-i g l = l.list.items ≡ flat_map (linedef_bytes l.level) (range_with_len 0 l.i)
