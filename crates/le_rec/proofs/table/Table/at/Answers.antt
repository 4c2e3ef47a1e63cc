use Rattle.le_rec.specs.Layout.{read_by}
use Rattle.le_rec.proofs.TableLemmas.{length-records_of}
use Rattle.le_rec.proofs.table.Table.at.Goals as goal

pub record_within-requires : goal.record_within-requires
record_within-requires g c =
    rw (length-records_of g.R.Record.SIZE (read_by g.R.Record.layout) c.self.inside.bytes.now) at
    (rw (← c.self.view_is) at c.requires)
