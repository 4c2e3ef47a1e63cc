use Rattle.std.proofs.lemmas.Result.{on_ok_weaker}
use Rattle.map_warnings.proofs.ListedLemmas.{adds_entry, adds_no_entry}
use Rattle.map_warnings.proofs.resources.push_entry.Goals as goal

pub returns-in-Some : goal.returns-in-Some
returns-in-Some g c =
    on_ok_weaker c.push_name.result
    (adds_entry c.args.set.now c.args.g c.name.result c.in-Some.name c.args.numbers.now.items c.push_name.new.numbers.items c.name.ensures
    c.in-Some.is) c.push_name.ensures.adds

pub returns-in-None : goal.returns-in-None
returns-in-None g c = adds_no_entry c.args.set.now c.args.g c.name.result c.args.numbers.now.items c.name.ensures c.in-None.is
