use Rattle.std.proofs.Common.{◌≡◌, ◌≤◌, true, length}
use Rattle.map_level.specs.Links.{linedefs_of}
use Rattle.map_level.specs.Reading.{linedef_under}
use Rattle.game_warnings.specs.Limit.{is_perpetual_at}
use Rattle.game_warnings.proofs.CountLemmas.{linedef_here, linedefs_past}
use Rattle.game_warnings.proofs.PerpetualLemmas.{all_perpetual, PerpetualAt}
use Rattle.game_warnings.proofs.TagLemmas.{adds_at, marks_more, none_marked}
use Rattle.game_warnings.proofs.limit.mark_perpetual.Goals as goal

pub loop-i-init : goal.loop-i-init
loop-i-init c = none_marked (PerpetualAt c.args.level.now) c.args.tags.now c.requires.long c.requires.none

pub loop-i-preserved : goal.loop-i-preserved
loop-i-preserved c =
    let level = c.args.level.now in
    let here = linedef_here level c.loop-i.i c.at.result (rw (← c.linedefs-linedefs.ensures.is) c.at.ensures) in
    let adds =
    adds_at (linedefs_of level) c.loop-i.i (linedef_under level.reading c.at.result) (λ tag linedef. is_perpetual_at linedef tag ≡ true) c.loop-i.tags
    c.mark_linedef.new.tags here c.mark_linedef.ensures in
    marks_more (PerpetualAt level) c.loop-i.i c.loop-i.tags c.mark_linedef.new.tags c.mark_linedef.auto.tags c.loop-i.invariant adds

pub returns : goal.returns
returns c =
    let level = c.args.level.now in
    let past : length level.linedefs.records ≤ c.loop-i.i = rw (← c.linedefs-linedefs.ensures.is, ← c.len-i-end.ensures) c.loop-i-test.false in
    all_perpetual level c.loop-i.i c.loop-i.tags (linedefs_past level c.loop-i.i past) c.loop-i.invariant
