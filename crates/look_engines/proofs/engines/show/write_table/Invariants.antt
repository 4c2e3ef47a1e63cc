use Rattle.std.proofs.Common.{◌≡◌, false, drop, map}
use Rattle.line_io.proofs.WriteProgressLemmas.{SoFar}
use Rattle.look_engines.specs.Engines.Show.{record_lines, table_text}
use Rattle.look_engines.proofs.engines.show.write_table.Given as goal

abbrev pub invariant-rows : goal.invariant-rows
invariant-rows g l = record {
  sound : (g.W.Sink.state l.out).failed ≡ false;
  so_far : SoFar (table_text g.R.Record.layout l.lump (map (g.R.Shown.under l.reading) l.table.records) l.table.rest) (g.W.Sink.state l.fn.out) (g.W.Sink.state l.out)
      (record_lines g.R.Record.layout l.i (drop l.i (map (g.R.Shown.under l.reading) l.table.records)));
}
