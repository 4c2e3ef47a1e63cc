use Rattle.std.proofs.Common.{refl, arith}
use Rattle.std.proofs.lemmas.List.Elements.{All-more}
use Rattle.demo_engines.proofs.NumberLemmas.{stops_at, stops_behind}
use Rattle.line_io.specs.Numbers.{IsDigit}
use Rattle.demo_engines.proofs.numbers.count_others.Goals as goal

pub loop-i-preserved : goal.loop-i-preserved
loop-i-preserved c =
    All-more (λ byte. ¬ IsDigit byte) c.args.text.now c.loop-i.i 0 (omega (arith, c.loop-i-test.true)) c.loop-i.invariant
    (λ is. let yes = c.if-is_digit.ensures.1 is in let f : ⊥ = cc in f)

pub returns-then-is_digit-clause-stops : goal.returns-then-is_digit-clause-stops
returns-then-is_digit-clause-stops c =
    stops_at (λ byte. ¬ IsDigit byte) c.args.text.now c.loop-i.i (omega (arith, c.loop-i-test.true)) (λ not. not (c.if-is_digit.ensures.0 refl))

pub returns-clause-stops : goal.returns-clause-stops
returns-clause-stops c = stops_behind (λ byte. ¬ IsDigit byte) c.args.text.now
