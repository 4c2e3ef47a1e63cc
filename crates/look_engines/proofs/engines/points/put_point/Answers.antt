use Rattle.std.proofs.Common.{◌≡◌, ap, ◌∙◌}
use Rattle.look_engines.specs.Contents.{pair_text}
use Rattle.look_engines.specs.Engines.Points.{point_text}
use Rattle.look_engines.proofs.engines.points.put_point.Goals as goal

pub returns : goal.returns
returns g c =
    let pair = c.args.pair in
    let text : c.as_bytes.result.now ≡ point_text pair.x pair.y c.args.leaf =
    c.as_bytes.ensures ∙ c.prepend.ensures ∙ ap (pair_text pair.x pair.y) c.prepend_leaf.ensures.text in
    rw text at c.emit.ensures
