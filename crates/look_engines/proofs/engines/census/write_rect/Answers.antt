use Rattle.std.proofs.Common.{length, ap, arith}
use Rattle.look_engines.proofs.engines.census.write_rect.Goals as goal

pub prepend_integer-requires : goal.prepend_integer-requires
prepend_integer-requires g c = omega (arith, ap length c.new-line.ensures)

pub prepend_bytes-requires-2 : goal.prepend_bytes-requires-2
prepend_bytes-requires-2 g c = omega (arith, ap length c.new-line.ensures)

pub prepend_integer-requires-2 : goal.prepend_integer-requires-2
prepend_integer-requires-2 g c = omega (arith, ap length c.new-line.ensures)

pub prepend_bytes-requires-3 : goal.prepend_bytes-requires-3
prepend_bytes-requires-3 g c = omega (arith, ap length c.new-line.ensures)

pub prepend_integer-requires-3 : goal.prepend_integer-requires-3
prepend_integer-requires-3 g c = omega (arith, ap length c.new-line.ensures)

pub prepend_bytes-requires-4 : goal.prepend_bytes-requires-4
prepend_bytes-requires-4 g c = omega (arith, ap length c.new-line.ensures)

pub prepend_integer-requires-4 : goal.prepend_integer-requires-4
prepend_integer-requires-4 g c = omega (arith, ap length c.new-line.ensures)
