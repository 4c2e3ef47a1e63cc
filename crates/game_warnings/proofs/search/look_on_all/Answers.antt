use Rattle.std.proofs.Common.{◌≡◌, length, subst, arith}
use Rattle.game_warnings.specs.Around.{AreSearches}
use Rattle.game_warnings.specs.Sides.{sides_in}
use Rattle.game_warnings.proofs.SideLemmas.{sides_length}
use Rattle.game_warnings.proofs.search.look_on_all.Goals as goal

pub returns : goal.returns
returns c =
    let level = c.args.level.now in
    let many : c.len-i-end.result ≡ length level.linedefs.records = rw (← c.linedefs.ensures.is) c.len-i-end.ensures in
    let all : c.loop-i.i ≡ length (sides_in level) = omega (arith, c.loop-i-test.false, c.loop-i.auto.i-end, many, sides_length level) in
    subst (λ n. AreSearches level n c.loop-i.searches) all c.loop-i.invariant
