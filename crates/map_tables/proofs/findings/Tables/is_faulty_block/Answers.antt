use Rattle.std.proofs.Common.{length, ap, arith}
use Rattle.std.proofs.lemmas.Bool.{false≢true}
use Rattle.std.proofs.lemmas.Option.{MatchOption-at_none}
use Rattle.map_level.specs.Level.{Level}
use Rattle.map_tables.proofs.TableLemmas.{no_faulty_block}
use Rattle.map_tables.proofs.findings.Tables.is_faulty_block.Goals as goal

pub returns-in-None : goal.returns-in-None
returns-in-None c =
    let few = MatchOption-at_none _ _ c.in-None.is c.self.invariant in (
      (λ never. absurd (false≢true never)),
      (λ faulty.
          absurd (no_faulty_block c.args.self.now c.args.n (omega
          (arith, few, ap (λ (level : Level). length level.blockmap) c.self.view_is)) faulty)),
    )
