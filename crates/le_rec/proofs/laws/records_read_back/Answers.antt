use Rattle.std.proofs.Common.{sym, ◌∙◌}
use Rattle.le_rec.proofs.LayoutLemmas.{reads_back, bytes_length}
use Rattle.le_rec.proofs.laws.records_read_back.Goals as goal

pub returns : goal.returns
returns g c = λ r h.
    let layout = g.R.Record.layout in
    (bytes_length layout r ∙ sym g.met.R.Record.sized, reads_back layout r h)
