use Rattle.std.proofs.Common.{◌∙◌}
use Rattle.le_rec.proofs.LayoutLemmas.{read_in_range}
use Rattle.le_rec.proofs.laws.records_are_in_range.Goals as goal

pub returns : goal.returns
returns g c =
    λ bytes long are. read_in_range g.R.Record.layout bytes (long ∙ g.met.R.Record.sized) are
