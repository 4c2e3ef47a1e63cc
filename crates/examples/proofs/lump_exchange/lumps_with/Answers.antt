use Rattle.std.proofs.Common.{sym, ◌∙◌, arith}
use Rattle.examples.proofs.ExchangeLemmas.{ExchangedSoFar-more}
use Rattle.examples.proofs.lump_exchange.lumps_with.Goals as goal

pub loop-i-preserved : goal.loop-i-preserved
loop-i-preserved g c =
    rw c.in_ok-add.ensures.ok (ExchangedSoFar-more _ _ _ _ _ _ c.loop-i.invariant (omega (arith, c.total-i-end.ensures)) (sym c.name.ensures ∙ c.unwrap-name.ensures) c.in_ok-lump_with.ensures.ok)
