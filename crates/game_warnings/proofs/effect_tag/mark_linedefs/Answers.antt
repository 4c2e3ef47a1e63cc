use Rattle.std.proofs.Common.{◌≤◌, length}
use Rattle.map_level.specs.Links.{linedefs_of}
use Rattle.map_level.specs.Reading.{linedef_under}
use Rattle.game_warnings.specs.Harm.{HasEffectOn, IsEffectTagAt}
use Rattle.game_warnings.proofs.CountLemmas.{linedef_here, linedefs_past}
use Rattle.game_warnings.proofs.EffectLemmas.{all_effects}
use Rattle.game_warnings.proofs.TagLemmas.{adds_at, marks_more, none_marked}
use Rattle.game_warnings.proofs.effect_tag.mark_linedefs.Goals as goal

pub loop-i-init : goal.loop-i-init
loop-i-init c = none_marked (IsEffectTagAt c.args.level.now c.args.effect) c.args.tags.now c.requires.long c.requires.none

pub loop-i-preserved : goal.loop-i-preserved
loop-i-preserved c =
    let level = c.args.level.now in
    let effect = c.args.effect in
    let here = linedef_here level c.loop-i.i c.at.result (rw (← c.linedefs-linedefs.ensures.is) c.at.ensures) in
    let adds =
    adds_at (linedefs_of level) c.loop-i.i (linedef_under level.reading c.at.result) (λ tag linedef. HasEffectOn effect tag linedef) c.loop-i.tags
    c.mark_linedef.new.tags here c.mark_linedef.ensures in
    marks_more (IsEffectTagAt level effect) c.loop-i.i c.loop-i.tags c.mark_linedef.new.tags c.mark_linedef.auto.tags c.loop-i.invariant adds

pub returns : goal.returns
returns c =
    let level = c.args.level.now in
    let past : length level.linedefs.records ≤ c.loop-i.i = rw (← c.linedefs-linedefs.ensures.is, ← c.len-i-end.ensures) c.loop-i-test.false in
    all_effects level c.args.effect c.loop-i.i c.loop-i.tags (linedefs_past level c.loop-i.i past) c.loop-i.invariant
