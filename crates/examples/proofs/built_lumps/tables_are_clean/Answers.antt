use Rattle.map_tables.specs.TableFaults.{TableHolds}
use Rattle.examples.proofs.CleanLemmas.{empty_is_clean}
use Rattle.examples.proofs.built_lumps.tables_are_clean.Goals as goal

pub returns : goal.returns
returns g c =
    rw c.len.ensures (empty_is_clean (TableHolds c.args.level.now) c.in_ok-found.found c.in_ok-found.ensures)
