use Rattle.std.proofs.lemmas.Result.{IfErr-weaker, on_ok_weaker}
use Rattle.map_picture.proofs.DrawingLemmas.{drawn_by, sectors_listed, stops_as, takes_as}
use Rattle.map_picture.specs.Drawing.{IsAuditedDrawn, IsAuditedText}
use Rattle.map_picture.proofs.draw.draw_cells.Goals as goal

pub returns-clause-drawn : goal.returns-clause-drawn
returns-clause-drawn g c =
    let level = c.args.counted.now in
    let cells = c.args.cells.now in
    let sectors = sectors_listed cells c.in_ok-groups.groups c.in_ok-counts.counts c.in_ok-shown.shown.items c.in_ok-groups.ensures c.in_ok-counts.ensures c.in_ok-shown.ensures in
    let turns = drawn_by level cells c.grid.result c.in_ok-shown.shown.items c.deref.result.now c.args.marked.now c.requires.level_sound c.requires.are c.grid.ensures c.deref.ensures.value sectors in
    on_ok_weaker c.draw_shown.result
    (takes_as (IsAuditedText level c.grid.result c.deref.result.now c.args.marked.now) (IsAuditedDrawn level cells.grid c.args.marked.now)
    (g.W.Sink.state c.args.out.now) (g.W.Sink.state c.draw_shown.new.out) turns)
    c.draw_shown.ensures.drawn

pub returns-clause-stopped : goal.returns-clause-stopped
returns-clause-stopped g c =
    let level = c.args.counted.now in
    let cells = c.args.cells.now in
    let sectors = sectors_listed cells c.in_ok-groups.groups c.in_ok-counts.counts c.in_ok-shown.shown.items c.in_ok-groups.ensures c.in_ok-counts.ensures c.in_ok-shown.ensures in
    let turns = drawn_by level cells c.grid.result c.in_ok-shown.shown.items c.deref.result.now c.args.marked.now c.requires.level_sound c.requires.are c.grid.ensures c.deref.ensures.value sectors in
    IfErr-weaker c.draw_shown.result _ _
    (λ fault. stops_as g.W.Sink.state (IsAuditedText level c.grid.result c.deref.result.now c.args.marked.now) (IsAuditedDrawn level cells.grid c.args.marked.now)
    c.args.out.now c.draw_shown.new.out fault turns)
    c.draw_shown.ensures.stopped
