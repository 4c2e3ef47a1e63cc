use Rattle.std.proofs.Common.{◌≡◌, false, rules}
use Rattle.std.specs.List.{starts_with}
use Rattle.std.specs.Prelude.{nat_eq}
use Rattle.demo_engines.proofs.NumberLemmas.{label_none}
use Rattle.demo_engines.proofs.numbers.take_label.Goals as goal

pub returns-then-not-starts_with-clause-none : goal.returns-then-not-starts_with-clause-none
returns-then-not-starts_with-clause-none c rest same =
    let starts : starts_with nat_eq c.args.text.now c.args.label.now ≡ false = search rules in
    label_none c.args.text.now c.args.label.now rest starts same
