use Rattle.std.proofs.Common.{◌++◌, sym, ◌∙◌, arith}
use Rattle.std.specs.Fmt.{decimal}
use Rattle.demo_engines.proofs.NumberLemmas.{number_stops, number_there}
use Rattle.demo_engines.proofs.numbers.guess_number.Goals as goal

pub returns-clause-is : goal.returns-clause-is
returns-clause-is c label rest n small others stops same =
    let skipped = c.skip_label.ensures label (decimal n ++ rest) others (number_stops n rest (omega arith)) same in
    let there = number_there c.split_digits.result.0.now c.split_digits.result.1.now rest n (omega arith) c.split_digits.ensures.digits c.split_digits.ensures.stops stops
    (sym c.split_digits.ensures.both ∙ skipped) in
    (c.small.ensures.is n small there.0, there.1)
