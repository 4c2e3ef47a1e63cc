use Rattle.std.proofs.Common.{sym}
use Rattle.std.proofs.lemmas.Option.{slice_get_past}
use Rattle.le_rec.specs.Layout.{read_by}
use Rattle.le_rec.specs.Table.{records_of}
use Rattle.le_rec.proofs.TableLemmas.{length-records_of}
use Rattle.le_rec.proofs.table.record_at.Goals as goal

pub returns-then-index-bytes : goal.returns-then-index-bytes
returns-then-index-bytes g c =
    let size = g.R.Record.SIZE in
    let read = read_by g.R.Record.layout in
    let bytes = c.args.bytes.now in
    let past = rw c.SIZE.ensures at c.if-index-bytes.true in
    sym (slice_get_past (records_of size read bytes) c.args.index
    (rw (length-records_of size read bytes) past))
