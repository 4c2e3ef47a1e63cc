use Rattle.std.proofs.Common.{◌∙◌, sym, ap, arith}
use Rattle.map_cells.specs.Cells.{Cells, cell}
use Rattle.map_cells.proofs.CellLemmas.{cell-beside, cell-above, cell-got, cell_place}
use Rattle.map_cells.proofs.cells.Cells.get.Goals as goal
use Rattle.map_cells.proofs.cells.Cells.get.Goals.{then-i-self-via-then-i-self, then-i-self-via-else-i-self+then-j-self}

pub returns-then-i-self-clause-value : goal.returns-then-i-self-clause-value
returns-then-i-self-clause-value g c =
    let cells : Cells = record { grid = c.self.inside.grid; shown = c.self.inside.seen } in
    let i = c.args.i in
    let j = c.args.j in
    elim c.then-i-self.branch [
      | then-i-self-via-then-i-self w ↦
          sym (ap (λ (seen : Cells). cell seen i j) (sym c.self.view_is)
          ∙ cell-beside cells i j (omega (arith, w.if-i-self.true, c.self.invariant.1)))
      | then-i-self-via-else-i-self+then-j-self w ↦
          sym (ap (λ (seen : Cells). cell seen i j) (sym c.self.view_is)
          ∙ cell-above cells i j c.self.invariant.0 (omega (arith, w.if-j-self.true, c.self.invariant.2)))
    ]

pub returns-clause-value : goal.returns-clause-value
returns-clause-value g c =
    let cells : Cells = record { grid = c.self.inside.grid; shown = c.self.inside.seen } in
    let i = c.args.i in
    let j = c.args.j in
    cell-got cells c.self.inside.columns i j c.get.result c.self.invariant.1 c.if-i-self.false c.get.ensures
    ∙ ap (λ (seen : Cells). cell seen i j) c.self.view_is

pub get-requires : goal.get-requires
get-requires g c =
    let cells : Cells = record { grid = c.self.inside.grid; shown = c.self.inside.seen } in
    cell_place cells c.self.inside.columns c.self.inside.rows c.args.i c.args.j c.self.invariant.0 c.self.invariant.1 c.self.invariant.2
    c.if-i-self.false c.if-j-self.false
