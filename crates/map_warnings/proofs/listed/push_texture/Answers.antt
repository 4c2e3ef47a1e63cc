use Rattle.std.proofs.Common.{arith}
use Rattle.std.proofs.lemmas.Result.{on_ok_weaker}
use Rattle.map_warnings.specs.Listed.{IsNameAt}
use Rattle.map_warnings.proofs.NumberLemmas.{adds_none}
use Rattle.map_warnings.proofs.ListedLemmas.{adds_name}
use Rattle.map_warnings.proofs.listed.push_texture.Goals as goal

pub returns-in-Some-clause-adds : goal.returns-in-Some-clause-adds
returns-in-Some-clause-adds g c =
    on_ok_weaker c.push_name.result
    (adds_name c.args.lump.now c.args.k c.in-Some.name c.args.numbers.now.items c.push_name.new.numbers.items c.in-Some.ensures.some)
    c.push_name.ensures.adds

pub returns-in-Some-clause-few : goal.returns-in-Some-clause-few
returns-in-Some-clause-few g c = on_ok_weaker c.push_name.result (λ one. omega (arith, one)) c.push_name.ensures.one

pub returns-in-None-clause-adds : goal.returns-in-None-clause-adds
returns-in-None-clause-adds g c = adds_none (IsNameAt c.args.lump.now c.args.k) c.args.numbers.now.items c.in-None.ensures.none

pub returns-in-None-clause-few : goal.returns-in-None-clause-few
returns-in-None-clause-few g c = omega arith
