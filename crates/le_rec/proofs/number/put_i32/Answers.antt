use Rattle.std.proofs.Common.{ap, drop}
use Rattle.le_rec.proofs.NumberLemmas.{drop-put}
use Rattle.le_rec.proofs.number.put_i32.Goals as goal

pub returns-clause-rest : goal.returns-clause-rest
returns-clause-rest c =
    drop-put c.args.bytes.now c.write_i32.new.buf c.args.at 4 c.requires (ap (drop 4) c.write_i32.ensures)
