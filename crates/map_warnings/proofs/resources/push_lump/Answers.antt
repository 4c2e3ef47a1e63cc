use Rattle.std.proofs.Common.{arith}
use Rattle.std.proofs.lemmas.Result.{on_ok_weaker}
use Rattle.le_rec.specs.Name.{query_of}
use Rattle.map_warnings.proofs.ListedLemmas.{adds_found, adds_unfound}
use Rattle.map_warnings.proofs.resources.push_lump.Goals as goal

pub returns-in-Some-clause-adds : goal.returns-in-Some-clause-adds
returns-in-Some-clause-adds g c =
    on_ok_weaker c.push_textures.result
    (adds_found c.args.set.now (query_of c.args.name.now) c.in-Some.lump.now c.args.numbers.now.items c.push_textures.new.numbers.items
    c.in-Some.ensures.some) c.push_textures.ensures.adds

pub returns-in-Some-clause-few : goal.returns-in-Some-clause-few
returns-in-Some-clause-few g c =
    on_ok_weaker c.push_textures.result (λ few n lists. few n (lists c.in-Some.lump.now c.in-Some.ensures.some)) c.push_textures.ensures.few

pub returns-in-Some-clause-absent : goal.returns-in-Some-clause-absent
returns-in-Some-clause-absent g c = λ none. absurd (none c.in-Some.lump.now c.in-Some.ensures.some)

pub returns-in-None-clause-adds : goal.returns-in-None-clause-adds
returns-in-None-clause-adds g c = adds_unfound c.args.set.now (query_of c.args.name.now) c.args.numbers.now.items c.in-None.ensures.none

pub returns-in-None-clause-few : goal.returns-in-None-clause-few
returns-in-None-clause-few g c = λ n lists. omega arith
