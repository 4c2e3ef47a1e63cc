use Rattle.std.proofs.Common.{arith}
use Rattle.atlas_page.proofs.ItemLemmas.{code_part-none, code_part-some}
use Rattle.level_codes.specs.Codes.{code_at}
use Rattle.atlas_page.proofs.items.write_code_part.Goals as goal

pub returns-then-count-gt0 : goal.returns-then-count-gt0
returns-then-count-gt0 g c =
    let count = rw c.at-code.ensures at c.get-count.ensures in
    rw (code_part-some c.args.counts.now (code_at c.args.rank) (omega (arith, count, c.if-count-gt0.true)))
    (rw (c.get-count.ensures, c.at-code.ensures) at c.write_code_item.ensures)

pub returns-else-count-gt0 : goal.returns-else-count-gt0
returns-else-count-gt0 g c =
    let count = rw c.at-code.ensures at c.get-count.ensures in
    rw (code_part-none c.args.counts.now (code_at c.args.rank) (omega (arith, count, c.if-count-gt0.false))) c.emit.ensures
