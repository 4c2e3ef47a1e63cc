use Rattle.std.proofs.lemmas.Int.{to_z-of_z}
use Rattle.map_geo.proofs.ProductLemmas.{product_read, product_fits, unsigned_abs-product}
use Rattle.map_geo.proofs.partition.product.Goals as goal

pub overflow_mul-result : goal.overflow_mul-result
overflow_mul-result c =
    let h = c.requires in
    rw (product_read c.args.step c.args.from c.args.to h.step_in h.from_in h.to_in)
    (product_fits c.args.step c.args.from c.args.to h.step_in h.from_in h.to_in)

pub returns-clause-value : goal.returns-clause-value
returns-clause-value c =
    let h = c.requires in
    let fits = product_fits c.args.step c.args.from c.args.to h.step_in h.from_in h.to_in in
    rw (product_read c.args.step c.args.from c.args.to h.step_in h.from_in h.to_in) (simp to_z-of_z)

pub returns-clause-size : goal.returns-clause-size
returns-clause-size c =
    let h = c.requires in
    let fits = product_fits c.args.step c.args.from c.args.to h.step_in h.from_in h.to_in in
    rw (product_read c.args.step c.args.from c.args.to h.step_in h.from_in h.to_in) (simp to_z-of_z
    (unsigned_abs-product c.args.step c.args.from c.args.to h.step_in h.from_in h.to_in))
