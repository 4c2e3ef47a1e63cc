use Rattle.std.proofs.lemmas.Result.{err_from_is_err_and}
use Rattle.map_picture.proofs.PictureLemmas.{picture_ends, picture_stops}
use Rattle.map_picture.proofs.picture.write_picture.Goals as goal

pub returns-in_err-write_map : goal.returns-in_err-write_map
returns-in_err-write_map g c =
    let p = err_from_is_err_and c.from_residual.result c.from_residual.ensures.1 in
    let drawn = c.args.drawn.now in
    rw (p.1, p.2)
    (picture_stops c.args.counted.now c.counts.result drawn.frame drawn.size drawn.shown.now drawn.marked.now c.level.result.now c.level.ensures c.counts.ensures
    c.in_err-write_map.ensures)

pub returns : goal.returns
returns g c =
    let drawn = c.args.drawn.now in
    picture_ends c.args.counted.now c.counts.result drawn.frame drawn.size drawn.shown.now drawn.marked.now c.level.result.now c.level.ensures c.counts.ensures
    c.in_ok-write_map.ensures c.write_found.ensures
