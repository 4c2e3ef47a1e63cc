use Rattle.std.proofs.Common.{◌∙◌}
use Rattle.map_geo.proofs.ProductLemmas.{coordinate_read, step_read, product_told, products_read_fit, products_read}
use Rattle.map_geo.proofs.partition.Partition.cross.Goals as goal

pub product-requires : goal.product-requires
product-requires c =
    let h = c.self.invariant in
    record {
      step_in = step_read c.self.inside.dy h.3;
      from_in = coordinate_read _ h.0;
      to_in = coordinate_read _ c.x.ensures.in_range;
    }

pub product-requires-2 : goal.product-requires-2
product-requires-2 c =
    let h = c.self.invariant in
    record {
      step_in = step_read c.self.inside.dx h.2;
      from_in = coordinate_read _ h.1;
      to_in = coordinate_read _ c.y.ensures.in_range;
    }

pub overflow_sub-result : goal.overflow_sub-result
overflow_sub-result c =
    products_read_fit c.product.result c.product-2.result c.product.ensures.size
    c.product-2.ensures.size

pub returns : goal.returns
returns c =
    let line = c.self.inside in
    let h = c.self.invariant in
    let first = product_told line.dy _ _ _ h.3 h.0 c.x.ensures.in_range c.product.ensures.value in
    let second = product_told line.dx _ _ _ h.2 h.1 c.y.ensures.in_range c.product-2.ensures.value in
    let read =
    products_read c.product.result c.product-2.result c.product.ensures.size
    c.product-2.ensures.size in
    rw (← c.self.view_is, ← c.x.ensures.value, ← c.y.ensures.value) (read ∙ rw (first, second))
