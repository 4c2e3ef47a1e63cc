use Rattle.std.proofs.Common.{rules}
use Rattle.released.proofs.SideCodeLemmas.{fixed_read}
use Rattle.released.proofs.side.FixedNode.of.Goals as goal

pub returns : goal.returns
returns c = λ i. record {
  x = fixed_read c.args.node.now.x c.from.result c.fixed.result (search rules) (search rules) (search rules) c.from.ensures c.fixed.ensures i;
  y = fixed_read c.args.node.now.y c.from-2.result c.fixed-2.result (search rules) (search rules) (search rules) c.from-2.ensures c.fixed-2.ensures i;
  dx = fixed_read c.args.node.now.dx c.from-3.result c.fixed-3.result (search rules) (search rules) (search rules) c.from-3.ensures c.fixed-3.ensures i;
  dy = fixed_read c.args.node.now.dy c.from-4.result c.fixed-4.result (search rules) (search rules) (search rules) c.from-4.ensures c.fixed-4.ensures i;
}
