use Rattle.std.proofs.Common.{◌*◌, drop, subst}
use Rattle.map_cells.specs.Grid.{Grid}
use Rattle.wadlook_c.proofs.SeenLemmas.{sees_front}
use Rattle.wadlook_c.specs.Seen.{TellsGrid}
use Rattle.wadlook_c.proofs.cells.wadlook_cells.Goals as goal

pub returns-else-count-out-clause-done : goal.returns-else-count-out-clause-done
returns-else-count-out-clause-done c = λ _.
    let found = rw c.reading_of.ensures at c.in-Ok.ensures.ok in
    let told = c.told_grid-told.result in (
      found.0,
      found.1,
      record {
        cells = c.in-Ok.cells;
        are = found.3;
        over = found.2;
        tells = subst (λ (grid : Grid). TellsGrid grid told) c.grid.ensures c.told_grid-told.ensures;
        sees = sees_front c.in-Ok.cells c.put_cells.new.out (drop (told.columns * told.rows) c.args.out.now) c.put_cells.ensures;
      },
    )
