use Rattle.std.proofs.Common.{arith, sym, ◌∙◌, rules}
use Rattle.std.proofs.lemmas.Fmt.{decimal_injective}
use Rattle.demo_engines.proofs.numbers.small.Goals as goal

pub returns-in_default-clause-is : goal.returns-in_default-clause-is
returns-in_default-clause-is c n small is = absurd (c.in_default.ensures.none n (omega arith) is)

pub returns-then-number-lt256-clause-is : goal.returns-then-number-lt256-clause-is
returns-then-number-lt256-clause-is c n small is = decimal_injective c.in-Some.number n (omega arith) (omega arith) (sym c.in-Some.ensures.some ∙ is)

pub returns-else-number-lt256-clause-is : goal.returns-else-number-lt256-clause-is
returns-else-number-lt256-clause-is c n small is =
    let same = decimal_injective c.in-Some.number n (search rules) (omega arith) (sym c.in-Some.ensures.some ∙ is) in
    absurd (omega (arith, same))
