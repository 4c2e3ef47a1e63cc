use Rattle.std.proofs.Common.{sym, ◌∙◌, arith}
use Rattle.demo_engines.proofs.NumberLemmas.{number_there}
use Rattle.demo_engines.proofs.numbers.guess_word.Goals as goal

pub returns : goal.returns
returns c n rest small stops same =
    let there = number_there c.split_digits.result.0.now c.split_digits.result.1.now rest n (omega arith) c.split_digits.ensures.digits c.split_digits.ensures.stops stops
    (sym c.split_digits.ensures.both ∙ same) in
    (c.word.ensures n small there.0, there.1)
