use Rattle.std.proofs.Common.{inl, inr}
use Rattle.game_warnings.proofs.harm.harms_where.Goals as goal

pub returns-then-not-has_line : goal.returns-then-not-has_line
returns-then-not-has_line g c =
    inl (c.new.ensures.items, λ i has. (let yes_it = c.if-not-has_line.ensures.1 (i, has) in absurd (let gone = yes_it in cc)))

pub returns : goal.returns
returns g c = inr c.in_ok-harms.ensures
