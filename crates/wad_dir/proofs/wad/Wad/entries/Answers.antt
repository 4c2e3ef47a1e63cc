use Rattle.std.proofs.Common.{arith}
use Rattle.le_rec.specs.Record.{entry}
use Rattle.le_rec.proofs.TableLemmas.{length-records_of}
use Rattle.wad_dir.proofs.wad.Wad.entries.Goals as goal

pub returns-clause-bound : goal.returns-clause-bound
returns-clause-bound c =
    rw c.of.ensures
    (omega (arith, length-records_of 16 entry c.self.inside.table.now, c.self.invariant))
