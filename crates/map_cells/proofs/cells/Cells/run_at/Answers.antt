use Rattle.std.proofs.Common.{◌∙◌, sym}
use Rattle.std.proofs.lemmas.Bool.{false≢true}
use Rattle.std.proofs.lemmas.Option.{none-some}
use Rattle.map_cells.specs.Cells.{cell}
use Rattle.map_cells.proofs.BlockLemmas.{run-told}
use Rattle.map_cells.proofs.cells.Cells.run_at.Goals as goal

pub returns-then-goes_on-clause-run : goal.returns-then-goes_on-clause-run
returns-then-goes_on-clause-run g c = λ n.
    let left = c.goes_on.ensures.0 c.if-goes_on.true in
    ((λ e. absurd (none-some n e)), (λ run. absurd (run.left left.0 left.1)))

pub returns-clause-run : goal.returns-clause-run
returns-clause-run g c =
    run-told (cell c.args.self.now) c.args.sector c.args.i c.args.j c.args.end c.requires.column c.requires.all c.requires.stops
    (λ above shown. false≢true (sym c.if-goes_on.false ∙ c.goes_on.ensures.1 (above, shown)))
