use Rattle.le_rec.specs.Layout.{read_by}
use Rattle.std.proofs.Common.{arith, ap, length}
use Rattle.le_rec.specs.Table.{Rows}
use Rattle.le_rec.proofs.TableLemmas.{few_records}
use Rattle.map_level.proofs.level.table_of.Goals as goal

pub returns-clause-few : goal.returns-clause-few
returns-clause-few g c =
    omega (
      arith,
      c.requires,
      few_records g.R.Record.SIZE (read_by g.R.Record.layout) c.args.lump.now,
      ap (λ (rows : Rows g.row.R.Denot). length rows.records) c.of.ensures,
    )
