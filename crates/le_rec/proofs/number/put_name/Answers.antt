use Rattle.std.proofs.Common.{◌≡◌, length, arith, rules}
use Rattle.std.proofs.lemmas.Grind.{common_steps}
use Rattle.le_rec.proofs.FieldLemmas.{name_bytes-is}
use Rattle.le_rec.proofs.number.put_name.Goals as goal

pub returns-clause-front : goal.returns-clause-front
returns-clause-front c =
    let eight : length c.args.name.now ≡ 8 = search rules in
    rw (name_bytes-is c.args.name.now eight) (grind (arith, common_steps))
