use Rattle.le_rec.specs.Layout.{read_by}
use Rattle.std.proofs.Common.{sym}
use Rattle.le_rec.proofs.TableLemmas.{length-records_of}
use Rattle.le_rec.proofs.table.Table.len.Goals as goal

pub returns : goal.returns
returns g c =
    rw (
      ← c.self.view_is,
      c.SIZE.ensures,
    ) (sym (length-records_of g.R.Record.SIZE (read_by g.R.Record.layout) c.self.inside.bytes.now))
