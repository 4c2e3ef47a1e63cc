use Rattle.std.proofs.Common.{◌∙◌, ◌≤◌, length, arith}
use Rattle.map_cells.specs.SectorCounts.{shows}
use Rattle.map_cells.proofs.CountLemmas.{counted-more}
use Rattle.map_cells.proofs.sector_counts.count_cells.Goals as goal

pub loop-from-preserved : goal.loop-from-preserved
loop-from-preserved g c =
    let shown = c.args.seen.now in
    let from = c.loop-from.from in
    let end = c.same_end-end.result in
    let run = c.same_end-end.ensures in
    let few : end ≤ length shown = omega (arith, run.few, c.len-in-loop-from.ensures) in
    record {
      told = λ s.
          counted-more (shows s) shown from end _ _ _ run.after few c.get.ensures run.same
          (c.loop-from.invariant.told s) (c.count_run.ensures.told s);
      long = c.count_run.ensures.long ∙ c.loop-from.invariant.long;
      within = few;
    }
