use Rattle.std.proofs.Common.{◌≡◌, ◌+◌, drop, map, Some, None, refl, sym, ap, ◌∙◌}
use Rattle.std.proofs.lemmas.List.{length-map}
use Rattle.std.proofs.lemmas.Option.{slice_get-map}
use Rattle.std.proofs.lemmas.Result.{err_from_is_err_and}
use Rattle.std.specs.List.{slice_get}
use Rattle.std.specs.Option.{option_map}
use Rattle.line_io.proofs.WriteLemmas.{Writes-stop}
use Rattle.line_io.proofs.WriteProgressLemmas.{SoFar-more, SoFar-stop, SoFar-end}
use Rattle.look_engines.specs.Engines.Show.{record_line, record_lines}
use Rattle.look_engines.proofs.engines.ShowLemmas.{record_lines-drop}
use Rattle.line_io.proofs.RestLemmas.{drop_past}
use Rattle.look_engines.proofs.engines.show.write_table.Goals as goal

pub returns-in_err-write_counts : goal.returns-in_err-write_counts
returns-in_err-write_counts g c =
    let p = err_from_is_err_and c.from_residual.result c.from_residual.ensures.1 in
    let under = g.R.Shown.under c.args.reading in
    let records = map under c.args.table.now.records in
    let counted = rw (c.len.ensures, c.rest.ensures, ← length-map c.args.table.now.records under) at c.in_err-write_counts.ensures in
    rw (p.1, p.2) (Writes-stop (record_lines g.R.Record.layout 0 records) counted)

pub returns-in_err-write_row : goal.returns-in_err-write_row
returns-in_err-write_row g c =
    let p = err_from_is_err_and c.from_residual-in_err-write_row.result c.from_residual-in_err-write_row.ensures.1 in
    let under = g.R.Shown.under c.args.reading in
    let records = map under c.args.table.now.records in
    let i = c.rows.i in
    let row = under c.in-Some.row in
    let at : slice_get records i ≡ Some row = slice_get-map under c.args.table.now.records i ∙ ap (option_map under) (sym c.get.ensures ∙ c.in-Some.is) in
    rw (p.1, p.2) (SoFar-stop (record_line g.R.Record.layout i row) (record_lines g.R.Record.layout (i + 1) (drop (i + 1) records))
    c.rows.invariant.so_far (record_lines-drop g.R.Record.layout records i row at) c.in_err-write_row.ensures)

pub rows-preserved : goal.rows-preserved
rows-preserved g c =
    let under = g.R.Shown.under c.args.reading in
    let records = map under c.args.table.now.records in
    let i = c.rows.i in
    let row = under c.in-Some.row in
    let at : slice_get records i ≡ Some row = slice_get-map under c.args.table.now.records i ∙ ap (option_map under) (sym c.get.ensures ∙ c.in-Some.is) in
    record {
      sound = c.in_ok-write_row.ensures.ends.sound;
      so_far = SoFar-more _ (record_line g.R.Record.layout i row) (record_lines g.R.Record.layout (i + 1) (drop (i + 1) records))
          c.rows.invariant.so_far (record_lines-drop g.R.Record.layout records i row at) c.in_ok-write_row.ensures.takes.whole;
    }

pub returns-in_default : goal.returns-in_default
returns-in_default g c =
    let under = g.R.Shown.under c.args.reading in
    let records = map under c.args.table.now.records in
    let at : slice_get records c.rows.i ≡ None = slice_get-map under c.args.table.now.records c.rows.i ∙ ap (option_map under) (sym c.get.ensures ∙ c.in_default.is) in
    SoFar-end tt c.rows.invariant.so_far (rw (drop_past records c.rows.i at) refl) c.rows.invariant.sound
