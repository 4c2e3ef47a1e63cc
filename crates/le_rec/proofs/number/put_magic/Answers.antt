use Rattle.std.proofs.Common.{◌≡◌, length, arith, rules}
use Rattle.std.proofs.lemmas.Grind.{common_steps}
use Rattle.le_rec.proofs.FieldLemmas.{magic_bytes-is}
use Rattle.le_rec.proofs.number.put_magic.Goals as goal

pub returns-clause-front : goal.returns-clause-front
returns-clause-front c =
    let four : length c.args.magic.now ≡ 4 = search rules in
    rw (magic_bytes-is c.args.magic.now four) (grind (arith, common_steps))
