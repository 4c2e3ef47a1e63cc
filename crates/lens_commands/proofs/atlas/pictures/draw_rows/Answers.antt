use Rattle.std.proofs.Common.{arith, subst}
use Rattle.std.proofs.lemmas.Result.{err_from_is_err_and}
use Rattle.lens_commands.specs.AtlasPictures.{DrawsRow}
use Rattle.lens_commands.proofs.PictureLemmas.{rows_more, rows_none, rows_some}
use Rattle.lens_commands.proofs.atlas.pictures.draw_rows.Goals as goal

pub loop-row-init : goal.loop-row-init
loop-row-init g c = record {
  taken = c.requires.taken;
  draws = rows_none c.args.drawn.now c.args.origin.now.judging.reading c.args.set.now (g.F.Folder.kept c.args.folder.now);
}

pub loop-row-preserved : goal.loop-row-preserved
loop-row-preserved g c =
    let one = subst (λ row. DrawsRow c.args.drawn.now c.args.origin.now.judging.reading c.args.set.now row (g.F.Folder.kept c.loop-row.folder) (g.F.Folder.kept c.draw_row.new.folder)) c.row-item.is c.in_ok-draw_row.ensures.drawn in
    record {
      taken = c.in_ok-draw_row.ensures.taken;
      draws = rows_more c.args.drawn.now c.args.origin.now.judging.reading c.args.set.now c.args.rows.now c.loop-row.row-index c.row-item.result (g.F.Folder.kept c.args.folder.now)
          (g.F.Folder.kept c.loop-row.folder) (g.F.Folder.kept c.draw_row.new.folder) (omega (arith, c.loop-row-test.true)) c.loop-row.invariant.draws one;
    }

pub returns-in_err-draw_row-clause-some : goal.returns-in_err-draw_row-clause-some
returns-in_err-draw_row-clause-some g c =
    let p = err_from_is_err_and c.from_residual.result c.from_residual.ensures.1 in
    let some = rows_some c.args.drawn.now c.args.origin.now.judging.reading c.args.set.now c.args.rows.now c.loop-row.row-index (g.F.Folder.kept c.args.folder.now) (g.F.Folder.kept c.loop-row.folder)
    (g.F.Folder.kept c.draw_row.new.folder) c.loop-row.invariant.draws c.in_err-draw_row.ensures.kept in
    rw p.1 some
