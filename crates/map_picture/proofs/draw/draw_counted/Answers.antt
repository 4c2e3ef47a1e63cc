use Rattle.std.proofs.Common.{[], arith}
use Rattle.std.proofs.lemmas.Result.{IfErr-weaker, on_ok_weaker}
use Rattle.map_picture.proofs.DrawingLemmas.{drawn_bare, sound_by_counts, stops_as, takes_as}
use Rattle.map_picture.specs.Drawing.{IsAuditedDrawn, IsAuditedText}
use Rattle.map_picture.proofs.draw.draw_counted.Goals as goal

pub draw_sound-requires-clause-level_sound : goal.draw_sound-requires-clause-level_sound
draw_sound-requires-clause-level_sound g c =
    (sound_by_counts c.args.counted.now c.counts-counts.result c.counts-counts.ensures).1 (omega (arith, c.if-counts-gt0.false))

pub returns-then-counts-gt0-clause-drawn : goal.returns-then-counts-gt0-clause-drawn
returns-then-counts-gt0-clause-drawn g c =
    let level = c.args.counted.now in
    let decided = sound_by_counts level c.counts-counts.result c.counts-counts.ensures in
    let turns = drawn_bare level c.args.grid c.args.marked.now (λ sound. omega (arith, decided.0 sound, c.if-counts-gt0.true)) in
    on_ok_weaker c.draw_shown.result
    (takes_as (IsAuditedText level c.args.grid [] c.args.marked.now) (IsAuditedDrawn level c.args.grid c.args.marked.now) (g.W.Sink.state c.args.out.now) (g.W.Sink.state c.draw_shown.new.out) turns)
    c.draw_shown.ensures.drawn

pub returns-then-counts-gt0-clause-stopped : goal.returns-then-counts-gt0-clause-stopped
returns-then-counts-gt0-clause-stopped g c =
    let level = c.args.counted.now in
    let decided = sound_by_counts level c.counts-counts.result c.counts-counts.ensures in
    let turns = drawn_bare level c.args.grid c.args.marked.now (λ sound. omega (arith, decided.0 sound, c.if-counts-gt0.true)) in
    IfErr-weaker c.draw_shown.result _ _
    (λ fault. stops_as g.W.Sink.state (IsAuditedText level c.args.grid [] c.args.marked.now) (IsAuditedDrawn level c.args.grid c.args.marked.now) c.args.out.now c.draw_shown.new.out fault turns)
    c.draw_shown.ensures.stopped
