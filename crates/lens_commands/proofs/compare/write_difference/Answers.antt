use Rattle.std.proofs.Common.{inr}
use Rattle.lens_commands.proofs.CompareLemmas.{difference_told}
use Rattle.lens_commands.proofs.compare.write_difference.Goals as goal

pub returns-in-Ok-false : goal.returns-in-Ok-false
returns-in-Ok-false g c =
    let compares = rw c.in-Ok-false.field-0-test at c.in-Ok-false.ensures in
    inr (difference_told g.O.Write.contents c.args.what c.args.a.now c.args.b.now c.args.out.now c.compare_demos.new.out c.write_rest-in-Ok-false.new.out c.write_rest-in-Ok-false.result
    compares c.write_rest-in-Ok-false.ensures)
