use Rattle.std.proofs.Common.{◌∷◌, ◌∙◌, sym}
use Rattle.demo_engines.proofs.ListingLemmas.{end_stops}
use Rattle.demo_engines.proofs.NumberLemmas.{number_there}
use Rattle.demo_engines.proofs.numbers.behind_last_number.Goals as goal

pub returns-in_default-clause-none : goal.returns-in_default-clause-none
returns-in_default-clause-none c n rest small same =
    let there = number_there c.split_digits.result.0.now c.split_digits.result.1.now (10 ∷ rest) n small c.split_digits.ensures.digits c.split_digits.ensures.stops (end_stops rest)
    (sym c.split_digits.ensures.both ∙ same) in
    c.in_default.ensures.none n small there.0

pub returns-in-None-clause-none : goal.returns-in-None-clause-none
returns-in-None-clause-none c n rest small same =
    let there = number_there c.split_digits.result.0.now c.split_digits.result.1.now (10 ∷ rest) n small c.split_digits.ensures.digits c.split_digits.ensures.stops (end_stops rest)
    (sym c.split_digits.ensures.both ∙ same) in
    c.in-None.ensures.none rest there.1
