use Rattle.std.proofs.Common.{arith}
use Rattle.std.proofs.Math.ListN.{drop_of_length-le}
use Rattle.line_io.proofs.text_line.TextLine.clear.Goals as goal

pub returns : goal.returns
returns c = drop_of_length-le c.self.inside.bytes {i = 144} (omega (arith, c.self.invariant.1))
