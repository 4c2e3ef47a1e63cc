use Rattle.std.proofs.Common.{◌∙◌}
use Rattle.le_rec.specs.Layout.{bytes_by, read_by}
use Rattle.le_rec.proofs.LayoutLemmas.{writes_back}
use Rattle.le_rec.proofs.TableLemmas.{joined-records_of}
use Rattle.le_rec.proofs.laws.records_are_joined.Goals as goal

pub returns : goal.returns
returns g c = λ bytes bs.
    let law = g.met.R.Record in
    let layout = g.R.Record.layout in
    joined-records_of g.R.Record.SIZE (read_by layout) (bytes_by layout) bytes law.size_above_zero
    (λ piece long are. writes_back layout piece (long ∙ law.sized) are) bs
