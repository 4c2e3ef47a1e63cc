use Rattle.std.proofs.Common.{◌≤◌, length}
use Rattle.map_level.specs.Links.{sectors_of}
use Rattle.game_warnings.proofs.HarmLemmas.{harms_all, plain_below}
use Rattle.game_warnings.proofs.harm.add_sectors.Goals as goal

pub loop-s-init : goal.loop-s-init
loop-s-init c = plain_below c.args.level.now c.args.effect c.args.harms.now c.requires.plain

pub returns : goal.returns
returns c =
    let past : length (sectors_of c.args.level.now) ≤ c.loop-s.s = rw (← c.sectors.ensures.is, ← c.len-s-end.ensures) c.loop-s-test.false in
    harms_all c.args.level.now c.args.effect c.loop-s.s c.loop-s.harms past c.loop-s.invariant
