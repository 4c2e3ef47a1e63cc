use Rattle.std.proofs.Common.{◌≡◌, length, arith}
use Rattle.map_level.specs.Links.{sectors_of}
use Rattle.game_warnings.proofs.AroundLemmas.{bare_all, bare_more, bare_none}
use Rattle.game_warnings.proofs.around.bare.Goals as goal

pub loop-s-init : goal.loop-s-init
loop-s-init g c = rw c.in_ok-around.ensures.items (bare_none c.args.level.now)

pub loop-s-preserved : goal.loop-s-preserved
loop-s-preserved g c =
    rw c.in_ok-push.ensures.items
    (bare_more c.args.level.now c.loop-s.s c.loop-s.around.items c.nothing_around.result c.loop-s.invariant c.nothing_around.ensures)

pub returns : goal.returns
returns g c =
    let many : c.len-s-end.result ≡ length (sectors_of c.args.level.now) = rw (← c.sectors-sectors.ensures.is) c.len-s-end.ensures in
    let all : c.loop-s.s ≡ length (sectors_of c.args.level.now) = omega (arith, c.loop-s-test.false, c.loop-s.auto.s-end, many) in
    bare_all c.args.level.now c.loop-s.s c.loop-s.around.items all c.loop-s.invariant
