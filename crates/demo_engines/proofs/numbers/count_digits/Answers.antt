use Rattle.std.proofs.Common.{refl, arith}
use Rattle.std.proofs.lemmas.List.Elements.{All-more}
use Rattle.demo_engines.proofs.NumberLemmas.{stops_at, stops_behind}
use Rattle.line_io.specs.Numbers.{IsDigit}
use Rattle.demo_engines.proofs.numbers.count_digits.Goals as goal

pub loop-i-preserved : goal.loop-i-preserved
loop-i-preserved c = All-more IsDigit c.args.text.now c.loop-i.i 0 (omega (arith, c.loop-i-test.true)) c.loop-i.invariant (c.if-not-is_digit.ensures.0 refl)

pub returns-then-not-is_digit-clause-stops : goal.returns-then-not-is_digit-clause-stops
returns-then-not-is_digit-clause-stops c =
    stops_at IsDigit c.args.text.now c.loop-i.i (omega (arith, c.loop-i-test.true)) (λ is. let yes = c.if-not-is_digit.ensures.1 is in let f : ⊥ = cc in f)

pub returns-clause-stops : goal.returns-clause-stops
returns-clause-stops c = stops_behind IsDigit c.args.text.now
