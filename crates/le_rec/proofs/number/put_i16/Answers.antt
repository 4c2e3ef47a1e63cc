use Rattle.std.proofs.Common.{ap, drop}
use Rattle.le_rec.proofs.NumberLemmas.{drop-put}
use Rattle.le_rec.proofs.number.put_i16.Goals as goal

pub returns-clause-rest : goal.returns-clause-rest
returns-clause-rest c =
    drop-put c.args.bytes.now c.write_i16.new.buf c.args.at 2 c.requires (ap (drop 2) c.write_i16.ensures)
