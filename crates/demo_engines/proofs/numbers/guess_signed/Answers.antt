use Rattle.std.proofs.Common.{◌≡◌, ◌∷◌, [], ap, ◌∙◌, rules, w8, to_z, of_z}
use Rattle.std.proofs.lemmas.Int.{to_z-of_z}
use Rattle.std.specs.List.{starts_with}
use Rattle.std.specs.Prelude.{nat_eq}
use Rattle.demo_engines.proofs.NumberLemmas.{signed_there}
use Rattle.demo_engines.proofs.numbers.guess_signed.Goals as goal

pub returns : goal.returns
returns c z rest fits stops same =
    let starts : starts_with nat_eq c.args.text.now (45 ∷ []) ≡ c.starts_with-is_negative.result = search rules in
    let there = signed_there c.args.text.now c.guess_number-magnitude.result.1.now c.starts_with-is_negative.result c.guess_number-magnitude.result.0 c.with_sign.result
    starts c.guess_number-magnitude.ensures.is c.with_sign.ensures.positive c.with_sign.ensures.negative z rest fits stops same in
    (ap (λ v. to_z w8 (of_z w8 v)) there.0 ∙ to_z-of_z w8 z fits, there.1)
