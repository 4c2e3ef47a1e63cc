use Rattle.std.proofs.Common.{arith, sym, ◌∙◌, rules}
use Rattle.std.proofs.lemmas.Fmt.{decimal_injective}
use Rattle.demo_engines.proofs.numbers.word.Goals as goal

pub returns-in_default : goal.returns-in_default
returns-in_default c n small is = absurd (c.in_default.ensures.none n (omega arith) is)

pub returns-then-number-lt65536 : goal.returns-then-number-lt65536
returns-then-number-lt65536 c n small is = decimal_injective c.in-Some.number n (omega arith) (omega arith) (sym c.in-Some.ensures.some ∙ is)

pub returns-else-number-lt65536 : goal.returns-else-number-lt65536
returns-else-number-lt65536 c n small is =
    let same = decimal_injective c.in-Some.number n (search rules) (omega arith) (sym c.in-Some.ensures.some ∙ is) in
    absurd (omega (arith, same))
