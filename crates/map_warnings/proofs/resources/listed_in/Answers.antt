use Rattle.std.proofs.Common.{[], ap, arith, length}
use Rattle.std.specs.Prelude.{codes}
use Rattle.map_warnings.specs.Listed.{IsListedUnder, IsTexture}
use Rattle.map_warnings.specs.NameNumber.{AddsNames}
use Rattle.map_warnings.proofs.NumberLemmas.{adds_both, are_all}
use Rattle.map_warnings.proofs.resources.listed_in.Goals as goal

pub returns-clause-numbers : goal.returns-clause-numbers
returns-clause-numbers g c =
    let files = c.args.set.now in
    let first : AddsNames (IsListedUnder files (codes "TEXTURE1")) [] c.push_lump.new.numbers.items =
    rw c.new-numbers.ensures.items at c.in_ok-push_lump.ensures.adds in
    let adds =
    adds_both (IsListedUnder files (codes "TEXTURE1")) (IsListedUnder files (codes "TEXTURE2")) (IsTexture files) []
    c.push_lump.new.numbers.items c.push_second.new.numbers.items first c.in_ok-push_second.ensures.adds (λ name. (λ h. h, λ h. h)) in
    are_all (IsTexture files) c.push_second.new.numbers.items c.of.result adds c.of.ensures.same

pub returns-clause-few : goal.returns-clause-few
returns-clause-few g c = λ one two lists_one lists_two.
    let none = ap length c.new-numbers.ensures.items in
    let first = c.in_ok-push_lump.ensures.few one lists_one in
    let second = c.in_ok-push_second.ensures.few two lists_two in
    omega (arith, c.of.ensures.long, none, first, second)
