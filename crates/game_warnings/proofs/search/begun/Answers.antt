use Rattle.std.proofs.Common.{◌≡◌, length, arith}
use Rattle.map_level.specs.Links.{sectors_of}
use Rattle.game_warnings.proofs.SearchLemmas.{begun_all, begun_more, begun_none}
use Rattle.game_warnings.proofs.search.begun.Goals as goal

pub loop-s-init : goal.loop-s-init
loop-s-init g c = rw c.in_ok-searches.ensures.items (begun_none c.args.level.now)

pub loop-s-preserved : goal.loop-s-preserved
loop-s-preserved g c =
    rw c.in_ok-push.ensures.items
    (begun_more c.args.level.now c.loop-s.s c.line_count.result c.loop-s.searches.items c.loop-s.invariant c.line_count.ensures)

pub returns : goal.returns
returns g c =
    let many : c.len-sectors.result ≡ length (sectors_of c.args.level.now) = rw (← c.sectors.ensures.is) c.len-sectors.ensures in
    let all : c.loop-s.s ≡ length (sectors_of c.args.level.now) = omega (arith, c.loop-s-test.false, c.loop-s.auto.s-end, many) in
    begun_all c.args.level.now c.loop-s.s c.loop-s.searches.items all c.loop-s.invariant
