use Rattle.std.proofs.Common.{[], ◌∷◌, ap, ◌∙◌, length}
use Rattle.std.proofs.lemmas.List.{length-append}
use Rattle.map_warnings.proofs.NumberLemmas.{adds_one}
use Rattle.map_warnings.proofs.names.push_name.Goals as goal

pub returns-clause-adds : goal.returns-clause-adds
returns-clause-adds g c =
    rw c.in_ok-push.ensures.items
    (adds_one c.args.numbers.now.items c.args.name c.name_number.result c.name_number.ensures.numbered)

pub returns-clause-one : goal.returns-clause-one
returns-clause-one g c =
    ap length c.in_ok-push.ensures.items ∙ length-append c.args.numbers.now.items (c.name_number.result ∷ [])
