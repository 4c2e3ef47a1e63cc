use Rattle.std.proofs.Common.{refl, rules}
use Rattle.demo_engines.proofs.NumberLemmas.{is_canonical_text, text_of, too_great}
use Rattle.demo_engines.proofs.numbers.natural.Goals as goal

pub returns-then-not-is_canonical-clause-none : goal.returns-then-not-is_canonical-clause-none
returns-then-not-is_canonical-clause-none c n small is =
    let yes = c.if-not-is_canonical.ensures.1 (is_canonical_text c.args.digits.now n small is) in
    let f : ⊥ = cc in f

pub returns-in-Some-clause-some : goal.returns-in-Some-clause-some
returns-in-Some-clause-some c =
    let canonical = c.if-not-is_canonical.ensures.0 refl in
    text_of c.args.digits.now c.in-Some.number c.requires canonical.0 canonical.1 c.in-Some.ensures.some (search rules)

pub returns-in-None-clause-none : goal.returns-in-None-clause-none
returns-in-None-clause-none c n small is = too_great c.args.digits.now n small c.in-None.ensures.none is
