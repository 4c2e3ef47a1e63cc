use Rattle.std.proofs.Common.{arith}
use Rattle.wadlook_c.proofs.LevelsLemmas.{told_all, told_none, told_step}
use Rattle.wadlook_c.proofs.levels.put_levels.Goals as goal

pub loop-g-init : goal.loop-g-init
loop-g-init g c = told_none c.args.set.now c.args.out.now

pub loop-g-preserved : goal.loop-g-preserved
loop-g-preserved g c =
    told_step c.args.set.now c.loop-g.g c.args.out.now c.loop-g.out c.put_start-count.new.out c.loop-g.count c.put_start-count.result c.put_start-count.ensures.puts c.loop-g.invariant

pub returns-clause-told : goal.returns-clause-told
returns-clause-told g c = told_all c.args.set.now c.loop-g.g c.args.out.now c.loop-g.out c.loop-g.count (omega (arith, c.total-g-end.ensures)) c.loop-g.invariant
