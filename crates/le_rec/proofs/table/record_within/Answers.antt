use Rattle.std.proofs.Common.{◌≡◌, ◌+◌, ◌-◌, ◌*◌, sym, ap, ◌∙◌, arith, Some}
use Rattle.le_rec.specs.Layout.{read_by}
use Rattle.le_rec.proofs.TableLemmas.{slice_get-records_of}
use Rattle.le_rec.proofs.table.record_within.Goals as goal

pub returns : goal.returns
returns g c =
    let size = g.R.Record.SIZE in
    let index = c.args.index in
    let one : index * size + size - index * size ≡ size = omega arith in
    let read = rw (c.SIZE-size.ensures, one) at c.read.ensures in
    slice_get-records_of size (read_by g.R.Record.layout) c.args.bytes.now index c.requires
    ∙ ap Some (sym read)
