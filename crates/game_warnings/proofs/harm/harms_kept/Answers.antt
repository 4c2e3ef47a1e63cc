use Rattle.std.proofs.Common.{inl, inr}
use Rattle.game_warnings.proofs.HarmLemmas.{none_harmed}
use Rattle.game_warnings.proofs.harm.harms_kept.Goals as goal

pub returns-then-not-harms_some : goal.returns-then-not-harms_some
returns-then-not-harms_some g c =
    inl (
      c.new.ensures.items,
      none_harmed c.args.level.now c.args.effect
          (λ s harmed. let yes_it = c.if-not-harms_some.ensures.1 (s, harmed) in absurd (let gone = yes_it in cc)),
    )

pub returns : goal.returns
returns g c = inr c.in_ok-harms.ensures
