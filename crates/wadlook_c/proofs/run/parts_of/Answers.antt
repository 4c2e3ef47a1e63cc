use Rattle.std.proofs.Common.{arith}
use Rattle.std.proofs.lemmas.List.{take_all}
use Rattle.wadlook_c.proofs.RunLemmas.{parts_more}
use Rattle.wadlook_c.proofs.run.parts_of.Goals as goal

pub loop-i-preserved : goal.loop-i-preserved
loop-i-preserved c =
    parts_more c.args.files.now c.loop-i.i _ c.loop-i.parts c.push_file.new.parts (omega (arith, c.loop-i-test.true)) c.in_ok-push_file.ensures c.loop-i.invariant

pub returns : goal.returns
returns c = rw (take_all c.loop-i.i c.args.files.now (omega (arith, c.loop-i-test.false))) at c.loop-i.invariant
