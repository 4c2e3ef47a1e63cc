use Rattle.std.proofs.Common.{sym, ap, ◌∙◌}
use Rattle.le_rec.specs.Layout.{bytes_by}
use Rattle.le_rec.proofs.LayoutLemmas.{writes_back}
use Rattle.le_rec.proofs.laws.equal_records_have_equal_bytes.Goals as goal

pub returns : goal.returns
returns g c = λ a b a_long b_long a_bytes b_bytes same.
    let layout = g.R.Record.layout in
    let sized = g.met.R.Record.sized in
    sym (writes_back layout a (a_long ∙ sized) a_bytes) ∙ ap (bytes_by layout) same
    ∙ writes_back layout b (b_long ∙ sized) b_bytes
