use Rattle.std.proofs.Common.{subst}
use Rattle.map_picture.proofs.DrawingLemmas.{drawn_as_asked, faulty_told, stops_as, takes_as}
use Rattle.map_picture.specs.Drawing.{IsAuditedDrawn, IsPicture, StopsText}
use Rattle.map_picture.specs.declared.draw.TextFault.TheVariants as text
use Rattle.map_picture.proofs.draw.draw_level.Goals as goal

pub returns-in-Ok-clause-drawn : goal.returns-in-Ok-clause-drawn
returns-in-Ok-clause-drawn g c =
    let level = c.args.level.now in
    let counted = c.in_ok-counted.counted in
    let turns = drawn_as_asked level counted c.args.asked c.in-Some.frame c.new.result c.deref.result.now c.in_ok-marked.marked.items c.in_ok-counted.ensures c.in-Some.ensures.frame c.new.ensures.frame c.new.ensures.size c.deref.ensures.value c.in_ok-marked.ensures in
    takes_as (IsAuditedDrawn counted c.new.result c.deref.result.now) (IsPicture level c.args.asked) (g.W.Sink.state c.args.out.now) (g.W.Sink.state c.draw_counted.new.out) turns c.in-Ok.ensures.drawn

pub returns-in-Ok-clause-faulty : goal.returns-in-Ok-clause-faulty
returns-in-Ok-clause-faulty g c =
    faulty_told c.args.level.now c.in_ok-counted.counted c.counts-faulty.result c.in_ok-counted.ensures c.counts-faulty.ensures

pub returns-clause-stopped : goal.returns-clause-stopped
returns-clause-stopped g c =
    let level = c.args.level.now in
    let counted = c.in_ok-counted.counted in
    let turns = drawn_as_asked level counted c.args.asked c.in-Some.frame c.new.result c.deref.result.now c.in_ok-marked.marked.items c.in_ok-counted.ensures c.in-Some.ensures.frame c.new.ensures.frame c.new.ensures.size c.deref.ensures.value c.in_ok-marked.ensures in
    let stopped = subst (StopsText g.W.Sink.state (IsAuditedDrawn counted c.new.result c.deref.result.now) c.args.out.now c.draw_counted.new.out) c.in-Err-Write.field-0-is c.in-Err-Write.ensures.stopped in (
      faulty_told level counted c.counts-faulty.result c.in_ok-counted.ensures c.counts-faulty.ensures,
      stops_as g.W.Sink.state (IsAuditedDrawn counted c.new.result c.deref.result.now) (IsPicture level c.args.asked) c.args.out.now c.draw_counted.new.out text.Write turns stopped,
    )
